-- What each rule says.
use Rattle.std.proofs.Common.{◌≡◌, ◌≢◌, ◌⊎◌, ◌<◌, ◌≤◌, ◌==◌, ◌&&◌, nat_lt, codes, ℕ, ◌+◌, ◌-◌, Bool, true, false, List, [], length, Option, Some, None, Result, Ok, Err, refl, ap, ◌∙◌, arith}
use Rattle.std.proofs.lemmas.Bool.Decides.{nat_tests}
use Rattle.std.proofs.lemmas.Bool.{eq-eqb, ne_eqb, lt-ltb}
use Rattle.yaml_scan_model.specs.declared.problem.Context.{Context}
use Rattle.yaml_scan_model.specs.declared.problem.Context.TheVariants as contexts
use Rattle.yaml_scan_model.specs.declared.problem.Problem.{Problem}
use Rattle.yaml_scan_model.specs.declared.problem.Problem.TheVariants as problems
use Rattle.yaml_scan_model.specs.Problems.{problem_text_of, context_text_of}
use Rattle.yaml_scan_model.specs.scan_types.Marks.{byte, break_width, is_blank_or_end}
use Rattle.yaml_scan_model.specs.Breaks.{is_document_indicator}
use Rattle.yaml_scan_model.specs.scan_types.Classes.{is_alpha, is_digit, is_blank}
use Rattle.yaml_scan_model.specs.Wrong.{Wrong}
use Rattle.yaml_scan_history.specs.Runs.{belongs, run_end}
use Rattle.yaml_scan_history.specs.UnboundedBlocks.{EndsBlockRun}
use Rattle.yaml_scan_history.specs.Anchors.{may_end_name, name_between, anchor_at}
use Rattle.yaml_scan_history.specs.Uris.{due_behind, spot_at, uri_at, some_uri_at}
use Rattle.yaml_scan_history.specs.Tags.{TagText, name_end, bracketed, parts_at, may_end_tag, ended}
use Rattle.yaml_scan_history.specs.Directives.{is_yaml, is_tag, name_between as directive_between, name_at, number_between, number_at, minor_at, version_at, handle_at, prefix_ended, with_prefix, prefix_at, tag_directive_at, named_value_at, value_at, ValueText, then_at, comment_end, break_end, with_line, finished, directive_at}
use Rattle.yaml_scan_history.proofs.WordsRunsLemmas.{run_to, run_stop}
use Rattle.yaml_scan_history.specs.Quoted.{standing_at, escape_at, hex_len, hex_value, simple_escape, coded, escaped}
use Rattle.yaml_scan_history.specs.Plain as plain
use Rattle.yaml_scan_history.specs.Header.{header_at}
use Rattle.yaml_scan_history.specs.Lines.{lines_from}
use Rattle.yaml_scan_history.specs.declared.kind.Kind.TheVariants as kinds
use Rattle.yaml_scan_history.specs.Words.{lexeme_at}
use Rattle.yaml_scan_history.specs.Rules.{TellsAll, IsTold, NoName, NamesAreTold, TagsAreTold, IsYaml, IsTagDirective, DirectivesAreTold, IsStandingTold, IsEscape, QuotesAreTold, PlainsAreTold, BlocksAreTold, PlacesAreTold}

abbrev wrong_here : Problem → Context → ℕ → Wrong
wrong_here problem context q = record { problem = problem; context = context; place = q }

-- ---- names

ends_here : (run : _) (text : List ℕ) (p q : ℕ) → p ≤ q
    → ((k : ℕ) → p ≤ k → k < q → belongs run text k ≡ true) → belongs run text q ≡ false
    → run_end run text p ≡ q
ends_here run text p q after each stops =
    let (m, left, same) = run_to (length text) run text p q after each (omega arith) in
    same ∙ run_stop m run text q stops

name_ends : (text : List ℕ) (p q : ℕ) → EndsBlockRun is_alpha text (p + 1) q → name_end text p ≡ q
unfolding belongs
name_ends text p q h = ends_here _ text (p + 1) q h.after h.each h.stops

no_end : (context : Context) (text : List ℕ) (p q : ℕ) → may_end_name text q ≡ false
    → name_between context text p q ≡ Err (wrong_here problems.NoAlphanumeric context q)
no_end context text p q n = grind arith

no_name : (context : Context) (text : List ℕ) (p q : ℕ) → NoName text p q
    → anchor_at context text p ≡ Err (wrong_here problems.NoAlphanumeric context q)
no_name context text p q h = grind (arith, name_ends, eq-eqb, no_end)

pub names_are_told : NamesAreTold
unfolding lexeme_at problem_text_of context_text_of
names_are_told = grind (arith, no_name)

-- ---- tags

verbatim_wrong : (text : List ℕ) (p : ℕ) (r : Result (List ℕ × ℕ) Wrong) → byte text (p + 1) ≡ 60
    → some_uri_at contexts.TagUri true text (p + 2) ≡ r → parts_at text p ≡ bracketed text r
unfolding parts_at
verbatim_wrong text p r b e = rw (eq-eqb (byte text (p + 1)) 60 b) (ap (bracketed text) e)

no_bracket : (text : List ℕ) (u : List ℕ × ℕ) → byte text u.1 ≢ 62
    → bracketed text (Ok u) ≡ Err (wrong_here problems.NoClosingBracket contexts.Tag u.1)
no_bracket text u n = rw (ne_eqb (byte text u.1) 62 n) refl

bracket_wrong : (flow : Bool) (text : List ℕ) (p : ℕ) (u : List ℕ × ℕ) → byte text (p + 1) ≡ 60
    → some_uri_at contexts.TagUri true text (p + 2) ≡ Ok u → byte text u.1 ≢ 62
    → ended flow text (parts_at text p)
    ≡ Err (wrong_here problems.NoClosingBracket contexts.Tag u.1)
bracket_wrong flow text p u b e n = ap (ended flow text) (verbatim_wrong text p (Ok u) b e ∙ no_bracket text u n)

empty_wrong : (flow : Bool) (text : List ℕ) (p q : ℕ) → byte text (p + 1) ≡ 60
    → uri_at contexts.TagUri true text (p + 2) ≡ Ok ([], q)
    → ended flow text (parts_at text p) ≡ Err (wrong_here problems.NoTagUri contexts.TagUri q)
empty_wrong flow text p q b e = grind (arith, verbatim_wrong, wrong_here)

end_wrong : (flow : Bool) (text : List ℕ) (p : ℕ) (t : TagText) → parts_at text p ≡ Ok t
    → may_end_tag flow text t.end ≡ false → ended flow text (parts_at text p)
    ≡ Err (wrong_here problems.NoWhitespaceOrBreak contexts.Tag t.end)
end_wrong flow text p t e n = ap (ended flow text) e ∙ rw n refl

leads_none : (b : ℕ) → ((0x80 ≤ b) × (b < 0xC0)) ⊎ (0xF8 ≤ b)
    → due_behind b 0 ≡ Err problems.WrongLeadingOctet
unfolding due_behind
leads_none b h = grind arith

trails_none : (b due : ℕ) → 0 < due → (b < 0x80) ⊎ (0xC0 ≤ b)
    → due_behind b due ≡ Err problems.WrongTrailingOctet
unfolding due_behind
trails_none b due d h = grind arith

pub tags_are_told : TagsAreTold
unfolding lexeme_at problem_text_of context_text_of spot_at
tags_are_told = grind (arith, nat_tests, bracket_wrong, empty_wrong, end_wrong, eq-eqb, ne_eqb, lt-ltb, leads_none, trails_none)

-- ---- directives

directive_told : (flow : Bool) (level : ℕ) (text : List ℕ) (p q : ℕ) (w : Wrong)
    (context problem : List ℕ) → directive_at text p ≡ Err w → TellsAll w context problem q
    → IsTold (lexeme_at kinds.Directive flow level text p) context problem q
unfolding lexeme_at
directive_told flow level text p q w context problem e t = rw e t

by_name : (text : List ℕ) (p : ℕ) (w : Wrong) → name_at text p ≡ Err w
    → directive_at text p ≡ Err w
by_name text p w e = ap (λ r. finished text (then_at (named_value_at text) r)) e

by_value : (text : List ℕ) (p : ℕ) (w : Wrong) → value_at text p ≡ Err w
    → directive_at text p ≡ Err w
by_value text p w e = ap (finished text) e

and_so : (a b : Bool) → a ≡ true → b ≡ true → (a && b) ≡ true
and_so a b e f = rw (e, f) refl

-- a test beside one that fails
pub and_not : (a b : Bool) → b ≡ false → (a && b) ≡ false
and_not a b e = grind arith

apart : (p q : ℕ) → p < q → (p == q) ≡ false
apart p q h = grind (arith, nat_tests)

four : (p : ℕ) → (p + 5 - (p + 1) == 4) ≡ true
four p = grind (arith, nat_tests)

three : (p : ℕ) → (p + 4 - (p + 1) == 3) ≡ true
three p = grind (arith, nat_tests)

not_four : (p : ℕ) → (p + 4 - (p + 1) == 4) ≡ false
not_four p = grind (arith, nat_tests)

yaml_value : (text : List ℕ) (p r : ℕ) → IsYaml text p r → value_at text p ≡ version_at text (p + 5)
yaml_value text p r h = grind (arith, name_ends, apart, and_so, four)

tag_value : (text : List ℕ) (p r : ℕ) → IsTagDirective text p r
    → value_at text p ≡ tag_directive_at text (p + 4)
tag_value text p r h = grind (arith, name_ends, apart, and_not, not_four, and_so, three)

name_none : (text : List ℕ) (p : ℕ) → EndsBlockRun is_alpha text (p + 1) (p + 1)
    → name_at text p ≡ Err (wrong_here problems.NoDirectiveName contexts.Directive (p + 1))
name_none text p h = ap (directive_between text (p + 1)) (name_ends text p (p + 1) h) ∙ rw (eq-eqb (p + 1) (p + 1) refl) refl

name_letters : (text : List ℕ) (p q : ℕ) → EndsBlockRun is_alpha text (p + 1) q → p + 1 < q
    → is_blank_or_end text q ≡ false
    → name_at text p ≡ Err (wrong_here problems.NotAlphabetical contexts.Directive q)
name_letters text p q h l n = ap (directive_between text (p + 1)) (name_ends text p q h) ∙ rw (apart (p + 1) q l, n) refl

name_unknown : (text : List ℕ) (p q : ℕ) → EndsBlockRun is_alpha text (p + 1) q → p + 1 < q
    → is_blank_or_end text q ≡ true → (is_yaml text (p + 1) && q - (p + 1) == 4) ≡ false
    → (is_tag text (p + 1) && q - (p + 1) == 3) ≡ false
    → name_at text p ≡ Err (wrong_here problems.UnknownDirective contexts.Directive q)
name_unknown text p q h l n y t = ap (directive_between text (p + 1)) (name_ends text p q h) ∙ rw (apart (p + 1) q l, n, y, t) refl

number_to : (text : List ℕ) (r e : ℕ) → EndsBlockRun is_digit text r e
    → number_at text r ≡ number_between text r e
unfolding belongs
number_to text r e h = ap (number_between text r) (ends_here _ text r e h.after h.each h.stops)

version_from : (text : List ℕ) (q r : ℕ) → EndsBlockRun is_blank text q r
    → version_at text q ≡ then_at (minor_at text) (number_at text r)
unfolding belongs
version_from text q r h = ap (λ z. then_at (minor_at text) (number_at text z)) (ends_here _ text q r h.after h.each h.stops)

number_none : (text : List ℕ) (q r : ℕ) → EndsBlockRun is_blank text q r
    → EndsBlockRun is_digit text r r
    → version_at text q ≡ Err (wrong_here problems.NoVersionNumber contexts.VersionDirective r)
number_none text q r b d = version_from text q r b ∙ rw (number_to text r r d, eq-eqb r r refl) refl

further : (r e : ℕ) → r < e → (e == r) ≡ false
further r e h = grind (arith, nat_tests)

few : (r e : ℕ) → e ≤ r + 9 → nat_lt (r + 9) e ≡ false
few r e h = grind (arith, nat_tests)

number_long : (text : List ℕ) (q r e : ℕ) → EndsBlockRun is_blank text q r
    → EndsBlockRun is_digit text r e → r + 9 < e
    → version_at text q ≡ Err (wrong_here problems.LongVersionNumber contexts.VersionDirective (r + 9))
number_long text q r e b d l =
    version_from text q r b ∙ rw (number_to text r e d, further r e (omega (arith, l)), lt-ltb (r + 9) e l) refl

number_alone : (text : List ℕ) (q r e : ℕ) → EndsBlockRun is_blank text q r
    → EndsBlockRun is_digit text r e → r < e → e ≤ r + 9 → byte text e ≢ 46
    → version_at text q ≡ Err (wrong_here problems.NoDigitOrDot contexts.VersionDirective e)
number_alone text q r e b d l m n =
    version_from text q r b ∙ rw (number_to text r e d, further r e l, few r e m, ne_eqb (byte text e) 46 n) refl

tag_from : (text : List ℕ) (q r : ℕ) → EndsBlockRun is_blank text q r
    → tag_directive_at text q
    ≡ then_at (λ handle e. with_prefix handle (prefix_at text e)) (handle_at text r)
unfolding belongs
tag_from text q r h = ap (λ z. then_at (λ handle e. with_prefix handle (prefix_at text e)) (handle_at text z)) (ends_here _ text q r h.after h.each h.stops)

handle_none : (text : List ℕ) (q r : ℕ) → EndsBlockRun is_blank text q r → byte text r ≢ 33
    → tag_directive_at text q ≡ Err (wrong_here problems.NoExclamationMark contexts.TagDirectiveStart r)
handle_none text q r b n = tag_from text q r b ∙ rw (ne_eqb (byte text r) 33 n) refl

handle_open : (text : List ℕ) (r e : ℕ) → byte text r ≡ 33 → EndsBlockRun is_alpha text (r + 1) e
    → r + 1 < e → byte text e ≢ 33
    → handle_at text r ≡ Err (wrong_here problems.NoExclamationMark contexts.TagDirectiveHandle e)
handle_open text r e m h l n = grind (arith, eq-eqb, name_ends, ne_eqb, further)

white_none : (text : List ℕ) (q r : ℕ) (h : List ℕ × ℕ) → EndsBlockRun is_blank text q r
    → handle_at text r ≡ Ok h → is_blank text h.1 ≡ false
    → tag_directive_at text q ≡ Err (wrong_here problems.NoWhitespace contexts.TagDirective h.1)
unfolding belongs
white_none text q r h b e n = tag_from text q r b ∙ ap (then_at (λ handle e. with_prefix handle (prefix_at text e))) e ∙ rw n refl

prefix_wrong : (text : List ℕ) (q r f : ℕ) (h u : List ℕ × ℕ) → EndsBlockRun is_blank text q r
    → handle_at text r ≡ Ok h → is_blank text h.1 ≡ true
    → EndsBlockRun is_blank text h.1 f
    → some_uri_at contexts.TagDirectiveUri true text f ≡ Ok u → is_blank_or_end text u.1 ≡ false
    → tag_directive_at text q ≡ Err (wrong_here problems.NoWhitespaceOrBreak contexts.TagDirective u.1)
unfolding belongs
prefix_wrong text q r f h u b e m w x n =
    tag_from text q r b ∙ ap (then_at (λ handle e. with_prefix handle (prefix_at text e))) e
    ∙ rw m (ap (λ z. with_prefix h.0 (prefix_ended text (some_uri_at contexts.TagDirectiveUri true text z))) (ends_here _ text h.1 f w.after w.each w.stops) ∙ ap (λ z. with_prefix h.0 (prefix_ended text z)) x ∙ rw n refl)

line_wrong : (text : List ℕ) (p r : ℕ) (v : ValueText) → value_at text p ≡ Ok v
    → EndsBlockRun is_blank text v.end r → break_width text (comment_end text r) ≡ 0
    → byte text (comment_end text r) ≢ 0
    → directive_at text p ≡ Err (wrong_here problems.NoCommentOrBreak contexts.Directive (comment_end text r))
unfolding belongs
line_wrong text p r v e b w n =
    ap (finished text) e ∙ ap (λ z. with_line v (break_end text (comment_end text z))) (ends_here _ text v.end r b.after b.each b.stops)
    ∙ rw (w, ne_eqb (byte text (comment_end text r)) 0 n) refl

pub directives_are_told : DirectivesAreTold
unfolding problem_text_of context_text_of
directives_are_told = record {
  no_name = λ flow level text p h.
      directive_told flow level text p (p + 1) _ _ _ (by_name text p _ (name_none text p h)) record { context = refl; problem = refl; place = refl };
  letters = λ flow level text p q h l n.
      directive_told flow level text p q _ _ _ (by_name text p _ (name_letters text p q h l n)) record { context = refl; problem = refl; place = refl };
  unknown = λ flow level text p q h l n y t.
      directive_told flow level text p q _ _ _ (by_name text p _ (name_unknown text p q h l n y t)) record { context = refl; problem = refl; place = refl };
  no_number = λ flow level text p r h d.
      directive_told flow level text p r _ _ _ (by_value text p _ (yaml_value text p r h ∙ number_none text (p + 5) r h.blanks d)) record { context = refl; problem = refl; place = refl };
  long_number = λ flow level text p r e h d l.
      directive_told flow level text p (r + 9) _ _ _ (by_value text p _ (yaml_value text p r h ∙ number_long text (p + 5) r e h.blanks d l)) record { context = refl; problem = refl; place = refl };
  no_dot = λ flow level text p r e h d l m n.
      directive_told flow level text p e _ _ _ (by_value text p _ (yaml_value text p r h ∙ number_alone text (p + 5) r e h.blanks d l m n)) record { context = refl; problem = refl; place = refl };
  no_handle = λ flow level text p r h n.
      directive_told flow level text p r _ _ _ (by_value text p _ (tag_value text p r h ∙ handle_none text (p + 4) r h.blanks n)) record { context = refl; problem = refl; place = refl };
  open_handle = λ flow level text p r e h m a l n.
      directive_told flow level text p e _ _ _
      (by_value text p _ (tag_value text p r h ∙ tag_from text (p + 4) r h.blanks ∙ ap (then_at (λ handle e. with_prefix handle (prefix_at text e))) (handle_open text r e m a l n)))
      record { context = refl; problem = refl; place = refl };
  no_white = λ flow level text p r x h e n.
      directive_told flow level text p x.1 _ _ _ (by_value text p _ (tag_value text p r h ∙ white_none text (p + 4) r x h.blanks e n)) record { context = refl; problem = refl; place = refl };
  behind_prefix = λ flow level text p r f x u h e m w y n.
      directive_told flow level text p u.1 _ _ _ (by_value text p _ (tag_value text p r h ∙ prefix_wrong text (p + 4) r f x u h.blanks e m w y n)) record { context = refl; problem = refl; place = refl };
  line = λ flow level text p r v e b w n.
      directive_told flow level text p (comment_end text r) _ _ _ (line_wrong text p r v e b w n) record { context = refl; problem = refl; place = refl };
}

-- ---- quotes

-- a `\` begins an escape
escape_there : (text : List ℕ) (p : ℕ) → IsEscape text p → standing_at 34 text p ≡ escape_at text p
unfolding standing_at
escape_there text p h = rw (h.mark, h.width, h.backslash) refl

letter_wrong : (text : List ℕ) (p : ℕ) → IsEscape text p → hex_len (byte text (p + 1)) ≡ 0
    → simple_escape (byte text (p + 1)) ≡ None → standing_at 34 text p ≡ escaped p None
unfolding escape_at
letter_wrong text p h n s = escape_there text p h ∙ rw (h.no_break, n, s) refl

coded_wrong : (text : List ℕ) (p : ℕ) (o : Option ℕ) → IsEscape text p
    → 0 < hex_len (byte text (p + 1)) → hex_value text (p + 2) (hex_len (byte text (p + 1))) ≡ o
    → standing_at 34 text p ≡ coded (p + 2) (p + 2 + hex_len (byte text (p + 1))) o
unfolding escape_at
coded_wrong text p o h n e = grind (arith, escape_there, lt-ltb)

indicator_told : (quote : ℕ) (text : List ℕ) (p : ℕ) → is_document_indicator text p ≡ true
    → IsStandingTold (standing_at quote text p) (codes "while scanning a quoted scalar")
    (codes "found unexpected document indicator") p
unfolding problem_text_of context_text_of standing_at
indicator_told quote text p h = rw h record { context = refl; problem = refl; place = refl }

end_told : (quote : ℕ) (text : List ℕ) (p : ℕ) → is_document_indicator text p ≡ false
    → byte text p ≡ 0
    → IsStandingTold (standing_at quote text p) (codes "while scanning a quoted scalar")
    (codes "found unexpected end of stream") p
unfolding problem_text_of context_text_of standing_at
end_told quote text p h z = rw (h, eq-eqb (byte text p) 0 z) record { context = refl; problem = refl; place = refl }

pub quotes_are_told : QuotesAreTold
unfolding problem_text_of context_text_of
quotes_are_told = record {
  indicator = indicator_told;
  end = end_told;
  letter = λ text p h n s. rw (letter_wrong text p h n s) record { context = refl; problem = refl; place = refl };
  digits = λ text p h n e. rw (coded_wrong text p None h n e) record { context = refl; problem = refl; place = refl };
  code = λ text p c h n e s. rw (coded_wrong text p (Some c) h n e, s) record { context = refl; problem = refl; place = refl };
}

-- ---- plain scalars

pub plains_are_told : PlainsAreTold
unfolding plain.spot_at problem_text_of context_text_of
plains_are_told = grind arith

-- ---- block scalars

pub blocks_are_told : BlocksAreTold
unfolding header_at lines_from problem_text_of context_text_of
blocks_are_told = grind arith

-- ---- between lexemes

pub places_are_told : PlacesAreTold
unfolding problem_text_of context_text_of
places_are_told = grind arith
