-- Names and handles as they are read; what each lexeme carries is well spelled.
use Rattle.std.proofs.Common.{◌≡◌, ℕ, zero, suc, ◌+◌, ◌≤◌, ◌<◌, ◌==◌, not, true, false, List, [], ◌∷◌, ◌++◌, length, slice_range, Result, Ok, Err, refl, sym, ◌∙◌, inl, inr, arith, add-zero, length-append, subst, ◌-◌, ◌&&◌, if◌then◌else◌, Bool}
use Rattle.yaml_scan_laws.proofs.TextWords.{cases_Bool, and_parts, eqb-true, nat_tests, Context, byte, is_digit_byte, is_alpha_byte, Wrong, within, belongs, run_within, name_between, anchor_at, name_end, handle_between, handle_at, Has, range_reads, AreAlphas, IsName, IsHandle, TokenBody, is_blank_or_end, run_end, filled, uri_at, some_uri_at, TagText, bracketed, with_handle, bare, parts_at, ValueText, then_at, is_yaml, is_tag, directive_name_between, number_at, with_major, minor_at, prefix_ended, prefix_at, with_prefix, named_value_at, value_at, with_line, single_quoted_at, double_quoted_at, PlainText, plain_at, BlockText, block_at, style_at, WordText, valued, tagged, body_said, directed, blocked, plainly, lexeme_at, IsSome, IsSpelled, ne_eqb}
use Rattle.yaml_scan_history.proofs.WordsRunsLemmas.{run_within-le}
use Rattle.yaml_scan_history.specs.scan_model.declared.problem.Context.TheVariants as contexts
use Rattle.yaml_scan_history.specs.scan_model.declared.problem.Problem.TheVariants as problems
use Rattle.yaml_scan_history.specs.scan_model.declared.name.yaml_scalar_style_t.{yaml_scalar_style_t}
use Rattle.yaml_scan_history.specs.scan_model.declared.name.yaml_scalar_style_t.TheVariants as styles
use Rattle.yaml_scan_history.specs.scan_types.Tokens as tokens
use Rattle.yaml_scan_history.specs.Tags.{ended}
use Rattle.yaml_scan_history.specs.Directives as directives
use Rattle.yaml_scan_history.specs.Directives.{finished}
use Rattle.yaml_scan_history.specs.declared.Kind.{Kind}
use Rattle.yaml_scan_history.specs.declared.Kind.TheVariants as kinds

same_test : (a b : ℕ) → a ≡ b → (a == b) ≡ false → ⊥
same_test a b e h = grind (arith, nat_tests)

-- there are alphas alone from one place to another
pub record Spans (text : List ℕ) (p q : ℕ) : Type 0 where
  pub name : List ℕ
  pub there : Has text p name
  pub end : q ≡ p + length name
  pub are : AreAlphas name
  pub inside : p ≤ length text → q ≤ length text

spans_more : (text : List ℕ) (p q : ℕ) → is_alpha_byte (byte text p) ≡ true
    → (p ≤ length text → q ≤ length text) → Spans text (p + 1) q → Spans text p q
spans_more text p q a l s = record {
  name = byte text p ∷ s.name;
  there = (refl, s.there);
  end = omega (arith, s.end);
  are = rw (a, s.are) refl;
  inside = l;
}

-- a run that holds alphas alone
run_spans : (run : _) (text : List ℕ) → ((p : ℕ) → belongs run text p ≡ is_alpha_byte (byte text p))
    → (n p : ℕ) → Spans text p (run_within n run text p)
unfolding run_within
run_spans run text is zero p = record { name = []; there = tt; end = sym (add-zero p); are = refl; inside = λ l. l }
run_spans run text is (suc n) p =
    let inside = run_within-le (suc n) run text p in
    elim (cases_Bool (belongs run text p)) [
      | inl e ↦ rw e (spans_more text p (run_within n run text (p + 1)) (rw (is p) at e) (rw e at inside) (run_spans run text is n (p + 1)))
      | inr e ↦ rw e record { name = []; there = tt; end = sym (add-zero p); are = refl; inside = λ l. l }
    ]

-- the alphas that follow a byte
pub name_spans : (text : List ℕ) (p : ℕ) → Spans text (p + 1) (name_end text p)
unfolding belongs
name_spans text p = run_spans _ text (λ q. refl) (length text) (p + 1)

some_alpha : (b : ℕ) → is_alpha_byte b ≡ true → 0 < b
unfolding is_alpha_byte is_digit_byte
some_alpha b h = grind (arith, nat_tests)

name_by : (name : List ℕ) (text : List ℕ) (p q : ℕ) → Has text p name → q ≡ p + length name
    → AreAlphas name → (p ≤ length text → q ≤ length text) → (p == q) ≡ false
    → IsName (slice_range text p q)
name_by [] text p q h e are l some = absurd (same_test p q (sym (e ∙ add-zero p)) some)
name_by (b ∷ bs) text p q (first, h) e are l some =
    let (front, back) = and_parts _ _ are in
    let here = within text p (omega (arith, first, some_alpha b front)) in
    let there = l (omega (arith, here)) in
    let same : slice_range text p q ≡ b ∷ bs = rw e (range_reads text p (b ∷ bs) (first, h) (omega (arith, there, e))) in
    rw same (ne_eqb (suc (length bs)) 0 (omega arith), are)

abbrev pub HasName : Result (List ℕ × ℕ) Wrong → Type 0
HasName (Ok x) = IsName x.0
HasName (Err w) = Unit {0}

name_good : (context : Context) (text : List ℕ) (p q : ℕ) → Spans text p q
    → HasName (name_between context text p q)
name_good context text p q s = grind (arith, nat_tests, cases_Bool, name_by)

-- an anchor's or alias's name
pub anchor_good : (context : Context) (text : List ℕ) (p : ℕ) → HasName (anchor_at context text p)
anchor_good context text p = name_good context text (p + 1) (name_end text p) (name_spans text p)

-- two texts, one after the other
pub has_both : (text : List ℕ) (p : ℕ) (xs ys : List ℕ) → Has text p xs
    → Has text (p + length xs) ys → Has text p (xs ++ ys)
has_both text p [] ys a b = rw add-zero at b
has_both text p (x ∷ xs) ys (e, a) b =
    let same : p + suc (length xs) ≡ p + 1 + length xs = omega arith in
    (e, has_both text (p + 1) xs ys a (subst (λ q. Has text q ys) same b))

-- `!` before alphas and another one
pub closed_handle : (text : List ℕ) (p q : ℕ) → byte text p ≡ 33 → byte text q ≡ 33
    → Spans text (p + 1) q → IsHandle (slice_range text p (q + 1))
closed_handle text p q mark close s =
    let inside = within text q (omega (arith, close)) in
    let last : Has text (p + 1 + length s.name) (33 ∷ []) = subst (λ k. Has text k (33 ∷ [])) s.end (close, tt) in
    let all : Has text p (33 ∷ (s.name ++ (33 ∷ []))) = (mark, has_both text (p + 1) s.name (33 ∷ []) s.there last) in
    let count : length (s.name ++ (33 ∷ [])) ≡ length s.name + 1 = length-append s.name (33 ∷ []) in
    let to : p + suc (length (s.name ++ (33 ∷ []))) ≡ q + 1 = omega (arith, count, s.end) in
    let same : slice_range text p (q + 1) ≡ 33 ∷ (s.name ++ (33 ∷ [])) = rw to at (range_reads text p (33 ∷ (s.name ++ (33 ∷ []))) all (omega (arith, to, inside))) in
    inr (s.name, same, s.are)

-- `!` alone
open_handle : (text : List ℕ) (p : ℕ) → byte text p ≡ 33 → IsHandle (slice_range text p (p + 1))
open_handle text p mark = let inside = within text p (omega (arith, mark)) in inl (range_reads text p (33 ∷ []) (mark, tt) (omega (arith, inside)))

abbrev pub HasHandle : Result (List ℕ × ℕ) Wrong → Type 0
HasHandle (Ok x) = IsHandle x.0
HasHandle (Err w) = Unit {0}

handle_between_good : (text : List ℕ) (p q : ℕ) → byte text p ≡ 33 → Spans text (p + 1) q
    → HasHandle (handle_between text p q)
handle_between_good text p q mark s = grind (arith, nat_tests, cases_Bool, closed_handle, eqb-true, open_handle)

-- a directive's handle
pub handle_good : (text : List ℕ) (p : ℕ) → HasHandle (handle_at text p)
handle_good text p = grind (arith, nat_tests, cases_Bool, handle_between_good, eqb-true, name_spans)

abbrev pub HasWord : Result WordText Wrong → Type 0
HasWord (Ok w) = IsSpelled w.body
HasWord (Err w) = Unit {0}

anchor_word : (r : Result (List ℕ × ℕ) Wrong) → HasName r → HasWord (valued tokens.anchor r)
anchor_word r h = grind (arith, nat_tests)

alias_word : (r : Result (List ℕ × ℕ) Wrong) → HasName r → HasWord (valued tokens.alias r)
alias_word r h = grind (arith, nat_tests)

quoted_word : (style : yaml_scalar_style_t) (r : Result (List ℕ × ℕ) Wrong)
    → HasWord (valued (λ v. tokens.scalar v style) r)
quoted_word style r = grind (arith, nat_tests)

plain_word : (r : Result PlainText Wrong) → HasWord (plainly r)
plain_word r = grind (arith, nat_tests)

block_word : (style : yaml_scalar_style_t) (r : Result BlockText Wrong) → HasWord (blocked style r)
block_word style r = grind (arith, nat_tests)

-- URIs.

abbrev HasSome : Result (List ℕ × ℕ) Wrong → Type 0
HasSome (Ok x) = IsSome x.0
HasSome (Err w) = Unit {0}

filled_good : (context : Context) (r : Result (List ℕ × ℕ) Wrong) → HasSome (filled context r)
filled_good context r = grind (arith, nat_tests)

uri_good : (context : Context) (wide : Bool) (text : List ℕ) (p : ℕ)
    → HasSome (some_uri_at context wide text p)
uri_good context wide text p = filled_good context (uri_at context wide text p)

-- Tags.

abbrev IsTag : TagText → Type 0
IsTag t = IsSpelled (tokens.tag t.handle t.suffix)

abbrev HasTag : Result TagText Wrong → Type 0
HasTag (Ok t) = IsTag t
HasTag (Err w) = Unit {0}

bracketed_good : (text : List ℕ) (r : Result (List ℕ × ℕ) Wrong) → HasSome r
    → HasTag (bracketed text r)
bracketed_good text r some = grind (arith, nat_tests)

handle_tag : (handle : List ℕ) (r : Result (List ℕ × ℕ) Wrong) → IsHandle handle → HasSome r
    → HasTag (with_handle handle r)
handle_tag handle r h some = grind (arith, nat_tests)

bare_good : (r : Result (List ℕ × ℕ) Wrong) → HasTag (bare r)
bare_good r = grind (arith, nat_tests)

parts_good : (text : List ℕ) (p : ℕ) → byte text p ≡ 33 → HasTag (parts_at text p)
unfolding parts_at
parts_good text p mark = grind (arith, nat_tests, cases_Bool, bracketed_good, uri_good, closed_handle, eqb-true, name_spans, handle_tag, bare_good)

tag_word : (flow : Bool) (text : List ℕ) (r : Result TagText Wrong) → HasTag r
    → HasWord (tagged (ended flow text r))
tag_word flow text r h = grind (arith, nat_tests)

-- Directives.

-- what a directive says, of any predicate
abbrev pub HasSaid : (TokenBody → Type 0) → Result ValueText Wrong → Type 0
HasSaid Q (Ok v) = Q (body_said v.said)
HasSaid Q (Err w) = Unit {0}

module _ (Q : TokenBody → Type 0) (version : (a b : ℕ) → Q (body_said (directives.version a b))) where
  then_good : {A : Type 0} (more : A → ℕ → Result ValueText Wrong) (r : Result (A × ℕ) Wrong)
      → ((x : A) (q : ℕ) → HasSaid Q (more x q)) → HasSaid Q (then_at more r)
  then_good more (Ok x) h = h x.0 x.1
  then_good more (Err w) h = tt

  major_good : (major : ℕ) (r : Result (ℕ × ℕ) Wrong) → HasSaid Q (with_major major r)
  major_good major (Ok x) = version major x.0
  major_good major (Err w) = tt

  minor_good : (text : List ℕ) (major q : ℕ) → HasSaid Q (minor_at text major q)
  minor_good text major q =
      elim (cases_Bool (byte text q == 46)) [
        | inl e ↦ rw e (major_good major (number_at text (q + 1)))
        | inr e ↦ rw e tt
      ]

  -- a directive's value, where the handle and prefix of a tag directive satisfy it
  pub value_said : (text : List ℕ) (p q : ℕ)
      → ((p : ℕ) → HasSaid Q (then_at (λ handle q. with_prefix handle (prefix_at text q)) (handle_at text p)))
      → HasSaid Q (then_at (named_value_at text) (directive_name_between text p q))
  value_said text p q tag =
      elim (cases_Bool (p == q)) [
        | inl h ↦ rw h tt
        | inr h ↦ elim (cases_Bool (not (is_blank_or_end text q))) [
          | inl i ↦ rw (h, i) tt
          | inr i ↦ elim (cases_Bool (is_yaml text p && q - p == 4)) [
            | inl j ↦ rw (h, i, j) (then_good (minor_at text) (number_at text _) (minor_good text))
            | inr j ↦ elim (cases_Bool (is_tag text p && q - p == 3)) [
              | inl k ↦ rw (h, i, j, k) (tag _)
              | inr k ↦ rw (h, i, j, k) tt
            ]
          ]
        ]
      ]

ended_good : (text : List ℕ) (r : Result (List ℕ × ℕ) Wrong) → HasSome r
    → HasSome (prefix_ended text r)
ended_good text r some = grind (arith, nat_tests)

prefix_behind : (run : _) (text : List ℕ) (p : ℕ)
    → HasSome (if belongs run text p then prefix_ended text
    (some_uri_at contexts.TagDirectiveUri true text (run_end run text p))
    else Err record { problem = problems.NoWhitespace; context = contexts.TagDirective; place = p })
prefix_behind run text p = grind (arith, nat_tests, ended_good, uri_good)

prefix_good : (text : List ℕ) (p : ℕ) → HasSome (prefix_at text p)
prefix_good text p = prefix_behind _ text p

with_prefix_good : (handle : List ℕ) (r : Result (List ℕ × ℕ) Wrong) → IsHandle handle → HasSome r
    → HasSaid IsSpelled (with_prefix handle r)
with_prefix_good handle r h some = grind (arith, nat_tests)

then_handle : (text : List ℕ) (r : Result (List ℕ × ℕ) Wrong) → HasHandle r
    → HasSaid IsSpelled (then_at (λ handle q. with_prefix handle (prefix_at text q)) r)
then_handle text r h = grind (arith, nat_tests, with_prefix_good, prefix_good)

handle_said : (text : List ℕ) (p : ℕ)
    → HasSaid IsSpelled (then_at (λ handle q. with_prefix handle (prefix_at text q)) (handle_at text p))
handle_said text p = then_handle text (handle_at text p) (handle_good text p)

value_good : (text : List ℕ) (p q : ℕ)
    → HasSaid IsSpelled (then_at (named_value_at text) (directive_name_between text p q))
value_good text p q = value_said IsSpelled (λ a b. tt) text p q (handle_said text)

line_word : (v : ValueText) (r : Result ℕ Wrong) → IsSpelled (body_said v.said)
    → HasWord (directed (with_line v r))
line_word v r h = grind (arith, nat_tests)

directive_word : (text : List ℕ) (r : Result ValueText Wrong) → HasSaid IsSpelled r
    → HasWord (directed (finished text r))
directive_word text r h = grind (arith, nat_tests, line_word)

-- a tag is after its `!`
abbrev pub Marked : Kind → List ℕ → ℕ → Type 0
Marked kinds.Tag text p = byte text p ≡ 33
Marked _ text p = Unit {0}

-- what is there of a kind
pub word_spelled : (k : Kind) (flow : Bool) (level : ℕ) (text : List ℕ) (p : ℕ) → Marked k text p
    → HasWord (lexeme_at k flow level text p)
unfolding lexeme_at
word_spelled kinds.Directive flow level text p m = directive_word text (value_at text p) (value_good text (p + 1) (name_end text p))
word_spelled kinds.Alias flow level text p m = alias_word (anchor_at contexts.Alias text p) (anchor_good contexts.Alias text p)
word_spelled kinds.Anchor flow level text p m = anchor_word (anchor_at contexts.Anchor text p) (anchor_good contexts.Anchor text p)
word_spelled kinds.Tag flow level text p m = tag_word flow text (parts_at text p) (parts_good text p m)
word_spelled kinds.Literal flow level text p m = block_word (style_at text p) (block_at level text p)
word_spelled kinds.Folded flow level text p m = block_word (style_at text p) (block_at level text p)
word_spelled kinds.SingleQuoted flow level text p m = quoted_word styles.YAML_SINGLE_QUOTED_SCALAR_STYLE (single_quoted_at text p)
word_spelled kinds.DoubleQuoted flow level text p m = quoted_word styles.YAML_DOUBLE_QUOTED_SCALAR_STYLE (double_quoted_at text p)
word_spelled kinds.Plain flow level text p m = plain_word (plain_at flow level text p)
word_spelled _ flow level text p m = tt
