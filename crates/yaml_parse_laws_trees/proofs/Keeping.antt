-- Taking a token inside a document: what is open, which token was last, and how the stack is.
use Rattle.std.proofs.Common.{◌≡◌, true, false, List, [], ◌∷◌, ◌++◌, Option, Some, None, refl, arith}
use Rattle.yaml_parse_laws_trees.proofs.Words.{wants_of, append_assoc, yaml_mark_t, Token, TokenBody, type_of, Wants, Flow, Brackets, Take, Properties, State, IsInner, IsInside, starts_content, starts_node, choice_at, content_taken, node_taken, lone_below, taken_at, is_directive, starts_document, take_rule, was_take, false≢true}
use Rattle.yaml_parse_model.specs.scan_types.Tokens as token
use Rattle.yaml_parse_laws_trees.specs.parse_grammar.declared.name.Brackets.TheVariants as brackets
use Rattle.yaml_parse_laws_trees.specs.parse_grammar.States as state
use Rattle.yaml_parse_laws_trees.proofs.FaultsStanding.{Sign, signs_behind, open_in, bracketed, last_of, Plain, Topped, plain_topped, is_flow, Nested}

-- the states after a token, by what was open before it
pub record Kept (b : TokenBody) (at : yaml_mark_t) (gs : List Sign) (s : List State) : Type 0 where
  pub opened : open_in s ≡ signs_behind b at gs
  pub topped : Topped (last_of b) s
  pub nested : Nested s

-- the same inside a document, which the token neither begins nor ends
pub record KeptInside (b : TokenBody) (at : yaml_mark_t) (gs : List Sign) (s : List State) : Type 0 where
  pub kept : Kept b at gs s
  pub inside : IsInside s
  pub still : is_directive b ≡ false
  pub within : starts_document b ≡ false

keep : {b : TokenBody} {at : yaml_mark_t} {gs : List Sign} {s : List State}
    → open_in s ≡ signs_behind b at gs → Topped (last_of b) s → Nested s → IsInside s
    → is_directive b ≡ false → starts_document b ≡ false → KeptInside b at gs s
keep o t n i d w = record { kept = record { opened = o; topped = t; nested = n }; inside = i; still = d; within = w }

-- a stack that a node is above
pub record Ground (w : Wants) (s : List State) : Type 0 where
  pub plain : Plain s
  pub nested : Nested s
  pub inside : IsInside s
  pub flow : bracketed (open_in s) ≡ is_flow w

content_kept : (w : Wants) (p : Option Properties) (start end : yaml_mark_t) (b : TokenBody)
    (s : List State) → starts_content w (type_of b) ≡ true → Ground w s
    → KeptInside b start (open_in s) ((content_taken w p start end b).above ++ s)
content_kept w p start end b s c g = grind (arith, keep, plain_topped, false≢true)

pub node_kept : (w : Wants) (start end : yaml_mark_t) (b : TokenBody) (s : List State)
    → starts_node w (type_of b) ≡ true → Ground w s
    → KeptInside b start (open_in s) ((node_taken w start end b).above ++ s)
node_kept w start end (token.alias name) s c g = keep refl (plain_topped s g.plain) g.nested g.inside refl refl
node_kept w start end (token.anchor name) s c g = keep refl (refl, g.plain) (g.flow, g.nested) (tt, g.inside) refl refl
node_kept w start end (token.tag handle suffix) s c g = keep refl (refl, g.plain) (g.flow, g.nested) (tt, g.inside) refl refl
node_kept w start end b s c g = content_kept w None start end b s c g

-- ---- inside brackets

lone_ground : (bs : Brackets) (o : yaml_mark_t) (s : List State) → Plain s → Nested s → IsInside s
    → Ground Flow (lone_below bs (state.more bs o ∷ []) ++ s)
lone_ground bs o s p n i = grind arith

lone_open : (bs : Brackets) (o : yaml_mark_t) (s : List State)
    → open_in (lone_below bs (state.more bs o ∷ []) ++ s) ≡ open_in (state.items bs o ∷ s)
lone_open bs o s = grind arith

lone_kept : (bs : Brackets) (o start end : yaml_mark_t) (b : TokenBody) (s : List State)
    → starts_node Flow (type_of b) ≡ true → Plain s → Nested s → IsInside s
    → KeptInside b start (open_in (state.items bs o ∷ s))
    (((node_taken Flow start end b).above ++ lone_below bs (state.more bs o ∷ [])) ++ s)
lone_kept bs o start end b s c p n i = grind (arith, append_assoc, lone_open, node_kept, lone_ground)

-- ---- each state

ground : (w : Wants) (s : List State) → Plain s → Nested s → IsInside s
    → bracketed (open_in s) ≡ is_flow w → Ground w s
ground w s p n i f = record { plain = p; nested = n; inside = i; flow = f }

inside_kept_by : (x : State) (start end : yaml_mark_t) (b : TokenBody) (s : List State)
    → choice_at x (type_of b) ≡ Take → IsInner x → Plain s → Nested (x ∷ s) → IsInside s
    → KeptInside b start (open_in (x ∷ s)) ((taken_at x (record {
      body = b;
      start_mark = start;
      end_mark = end;
    })).above ++ s)
inside_kept_by (state.optional place before) start end b s c h p n i =
    node_kept (wants_of place) start end b s
    (take_rule (state.optional place before) (type_of b) c) (ground (wants_of place) s p n.1 i n.0)
inside_kept_by (state.entries o) start end token.block_entry s c h p n i = keep refl (refl, (refl, p)) (refl, (tt, n.1)) (tt, (tt, i)) refl refl
inside_kept_by (state.entries o) start end token.block_end s c h p n i = keep refl (plain_topped s p) n.1 i refl refl
inside_kept_by (state.entries o) start end _ s c h p n i = absurd (was_take _ c)
inside_kept_by (state.others side) start end token.block_entry s c h p n i = keep refl (refl, (refl, p)) (n.0, (n.0, n.1)) (tt, (tt, i)) refl refl
inside_kept_by (state.others side) start end _ s c h p n i = absurd (was_take _ c)
inside_kept_by (state.pairs o) start end token.key s c h p n i = keep refl (refl, (refl, (refl, p))) (refl, (refl, (tt, n.1))) (tt, (tt, (tt, i))) refl refl
inside_kept_by (state.pairs o) start end token.block_end s c h p n i = keep refl (plain_topped s p) n.1 i refl refl
inside_kept_by (state.pairs o) start end _ s c h p n i = absurd (was_take _ c)
inside_kept_by (state.colon place) start end token.value s c h p n i = keep refl (refl, p) (n.0, n.1) (tt, i) refl refl
inside_kept_by (state.colon place) start end _ s c h p n i = absurd (was_take _ c)
inside_kept_by (state.with_properties w q) start end (token.anchor name) s c h p n i = keep refl (refl, p) (n.0, n.1) (tt, i) refl refl
inside_kept_by (state.with_properties w q) start end (token.tag handle suffix) s c h p n i = keep refl (refl, p) (n.0, n.1) (tt, i) refl refl
inside_kept_by (state.with_properties w q) start end b s c h p n i = content_kept w (Some q) start end b s (take_rule (state.with_properties w q) (type_of b) c) (ground w s p n.1 i n.0)
inside_kept_by (state.items brackets.Sequence o) start end token.key s c h p n i = keep refl (refl, (refl, (refl, (refl, p)))) (refl, (refl, (tt, (tt, n.1)))) (tt, (tt, (tt, (tt, i)))) refl refl
inside_kept_by (state.items brackets.Mapping o) start end token.key s c h p n i = keep refl (refl, (refl, (refl, p))) (refl, (refl, (tt, n.1))) (tt, (tt, (tt, i))) refl refl
inside_kept_by (state.items brackets.Sequence o) start end token.flow_sequence_end s c h p n i = keep refl (plain_topped s p) n.1 i refl refl
inside_kept_by (state.items brackets.Mapping o) start end token.flow_mapping_end s c h p n i = keep refl (plain_topped s p) n.1 i refl refl
inside_kept_by (state.items brackets.Sequence o) start end token.flow_mapping_end s c h p n i = absurd (was_take _ c)
inside_kept_by (state.items brackets.Mapping o) start end token.flow_sequence_end s c h p n i = absurd (was_take _ c)
inside_kept_by (state.items bs o) start end (token.alias name) s c h p n i = lone_kept bs o start end (token.alias name) s refl p n.1 i
inside_kept_by (state.items bs o) start end (token.anchor name) s c h p n i = lone_kept bs o start end (token.anchor name) s refl p n.1 i
inside_kept_by (state.items bs o) start end (token.tag handle suffix) s c h p n i = lone_kept bs o start end (token.tag handle suffix) s refl p n.1 i
inside_kept_by (state.items bs o) start end (token.scalar value style) s c h p n i = lone_kept bs o start end (token.scalar value style) s refl p n.1 i
inside_kept_by (state.items bs o) start end token.flow_sequence_start s c h p n i = lone_kept bs o start end token.flow_sequence_start s refl p n.1 i
inside_kept_by (state.items bs o) start end token.flow_mapping_start s c h p n i = lone_kept bs o start end token.flow_mapping_start s refl p n.1 i
inside_kept_by (state.items brackets.Sequence o) start end _ s c h p n i = absurd (was_take _ c)
inside_kept_by (state.items brackets.Mapping o) start end _ s c h p n i = absurd (was_take _ c)
inside_kept_by (state.more bs o) start end token.flow_entry s c h p n i = keep refl (refl, p) (tt, n.1) (tt, i) refl refl
inside_kept_by (state.more brackets.Sequence o) start end token.flow_sequence_end s c h p n i = keep refl (plain_topped s p) n.1 i refl refl
inside_kept_by (state.more brackets.Mapping o) start end token.flow_mapping_end s c h p n i = keep refl (plain_topped s p) n.1 i refl refl
inside_kept_by (state.more brackets.Sequence o) start end _ s c h p n i = absurd (was_take _ c)
inside_kept_by (state.more brackets.Mapping o) start end _ s c h p n i = absurd (was_take _ c)
inside_kept_by state.pair_end start end b s c h p n i = absurd (was_take _ c)
inside_kept_by state.lone start end b s c h p n i = absurd (was_take _ c)
inside_kept_by _ start end b s c h p n i = absurd h

pub inside_kept : (x : State) (t : Token) (s : List State) → choice_at x (type_of t.body) ≡ Take
    → IsInner x → Plain s → Nested (x ∷ s) → IsInside s → KeptInside t.body t.start_mark
    (open_in (x ∷ s)) ((taken_at x t).above ++ s)
inside_kept x t s c h p n i = inside_kept_by x t.start_mark t.end_mark t.body s c h p n i
