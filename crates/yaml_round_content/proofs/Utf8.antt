-- The texts of an input's events are UTF-8, as those of its tokens are.
use Rattle.std.proofs.Common.{List, [], ◌∷◌, Option, All}
use Rattle.yaml_round_content.proofs.Words.{All-head, All-tail, Token, Fault, AreUtf8, Given, run, initial, Directives, no_directives, Settled, refused, gave, noted, settle, Reading, read_on, reading, tokens_of, read, HaveUtf8Texts, GivenAre, Each, run_are, InputsHaveUtf8}
use Rattle.yaml_parse_model.specs.Source as source
use Rattle.yaml_emit_laws.specs.parse_grammar.Texts.{IsUtf8Item}
use Rattle.yaml_emit_laws.proofs.Utf8.{utf8_rules, IsUtf8Settled, settled_utf8}
use Rattle.yaml_round_content.proofs.Decoded.{tokens_utf8}

-- ---- tokens

each_utf8 : (ts : List Token) → All (λ (t : Token). source.HasUtf8 t.body) ts
    → Each source.HasUtf8 ts
each_utf8 [] a = tt
each_utf8 (t ∷ ts) a =
    (All-head (λ (x : Token). source.HasUtf8 x.body) t ts a, each_utf8 ts (All-tail (λ (x : Token). source.HasUtf8 x.body) t ts a))

-- ---- events

on_utf8 : (c : Settled) (g : Given) (k : Directives → Reading) → IsUtf8Settled c
    → ((ds : Directives) → AreUtf8 ds.tags → HaveUtf8Texts (k ds).events)
    → HaveUtf8Texts (read_on c g.0 g.1 k).events
on_utf8 (refused f) g k h more = tt
on_utf8 (gave b ds) g k h more = (h.0, more ds h.1)
on_utf8 (noted ds) g k h more = more ds h

reading_utf8 : (gs : List Given) (f : Option Fault) (ds : Directives) → GivenAre IsUtf8Item gs
    → AreUtf8 ds.tags → HaveUtf8Texts (reading gs f ds).events
unfolding reading
reading_utf8 [] f ds h d = tt
reading_utf8 (g ∷ gs) f ds h d = on_utf8 (settle g.0 ds) g (λ ds'. reading gs f ds') (settled_utf8 g.0.body g.0.from ds h.0 d) (λ ds' d'. reading_utf8 gs f ds' h.1 d')

pub input_utf8 : InputsHaveUtf8
unfolding read
input_utf8 from input =
    let ts = (tokens_of from input).tokens in
    let f = (tokens_of from input).fault in
    reading_utf8 (run ts initial f).items (run ts initial f).ending no_directives (run_are utf8_rules ts initial f (each_utf8 ts (tokens_utf8 from input)) (tt, tt)) tt
