-- Whether a line is bare after a layout, by whether it was before it.
use Rattle.std.proofs.Common.{◌≡◌, ℕ, zero, suc, ◌-◌, Bool, true, false, not, List, [], ◌∷◌, Option, Some, None, refl, ap, arith}
use Rattle.yaml_emit_laws.proofs.Shared.{Cursor, LineBreak, Lf, Cr, CrLf, letter, Rest, Layout, ◌▹◌, stay, choose, char, letters, blank, blanks, is_white, gap, word, indicator, new_line, must_break, indent_to, line, tag_spelling, Start, Nodes, sequence_node, start_tag, Context, position, is_flow, are_none, anchor_text, tag_text, properties_text, checked, block_indent_in, before_value, node_layout, items_layout, ValuesStandByKeys}
use Rattle.yaml_emit_layout.specs.declared.level.Part.TheVariants as part

-- from lines that are bare or not, to such
abbrev Leads : Bool → Bool → Layout → Type 0
Leads x y a = (k l : Rest) → ((e : Cursor) → e.bare ≡ y → k e ≡ l e) → (c : Cursor) → c.bare ≡ x → a c k ≡ a c l

leads_on : (x y z : Bool) (a b : Layout) → Leads x y a → Leads y z b → Leads x z (a ▹ b)
leads_on x y z a b f g k l h = f (λ e. b e k) (λ e. b e l) (g k l h)

stay_leads : (x : Bool) → Leads x x stay
stay_leads x k l h c w = h c w

char_leads : (x : Bool) (i : ℕ) → Leads x false (char i)
char_leads x i k l h c w = ap (λ t. letter i ∷ t) (h _ refl)

blank_leads : (x : Bool) → Leads x x blank
blank_leads x k l h c w = ap (λ t. letter 32 ∷ t) (h _ w)

blanks_lead : (x : Bool) (n : ℕ) → Leads x x (blanks n)
unfolding blanks
blanks_lead x zero = stay_leads x
blanks_lead x (suc n) = leads_on x x x blank (blanks n) (blank_leads x) (blanks_lead x n)

choose_leads : (x y : Bool) (test : Cursor → Bool) (a b : Layout) → Leads x y a → Leads x y b
    → Leads x y (choose test a b)
choose_leads x y test a b f g k l h c w = grind arith

first_leads : (x y : Bool) (test : Cursor → Bool) (a b : Layout)
    → ((c : Cursor) → c.bare ≡ x → test c ≡ true) → Leads x y a → Leads x y (choose test a b)
first_leads x y test a b t f k l h c w = rw (t c w) (f k l h c w)

gap_leads : (x : Bool) → Leads x x gap
gap_leads x = choose_leads x x is_white stay blank (stay_leads x) (blank_leads x)

letters_lead : (ts : List ℕ) → Leads false false (letters ts)
unfolding letters
letters_lead [] = stay_leads false
letters_lead (t ∷ ts) = leads_on false false false (char t) (letters ts) (char_leads false t) (letters_lead ts)

-- after a word a line is as it was if that is empty
abbrev behind : Bool → List ℕ → Bool
behind x [] = x
behind x (t ∷ ts) = false

all_letters_lead : (x : Bool) (ts : List ℕ) → Leads x (behind x ts) (letters ts)
unfolding letters
all_letters_lead x [] = stay_leads x
all_letters_lead x (t ∷ ts) = leads_on x false false (char t) (letters ts) (char_leads x t) (letters_lead ts)

word_leads : (x : Bool) (ts : List ℕ) → Leads x (behind x ts) (word ts)
word_leads x ts = leads_on x x (behind x ts) gap (letters ts) (gap_leads x) (all_letters_lead x ts)

abbrev behind_if : Bool → Option (List ℕ) → Bool
behind_if x None = x
behind_if x (Some t) = behind x t

abbrev spelled : Context → Option (List ℕ) → Option (List ℕ)
spelled p None = None
spelled p (Some t) = Some (tag_spelling p.directives t)

abbrev marked : Option (List ℕ) → Option (List ℕ)
marked None = None
marked (Some t) = Some (38 ∷ t)

anchor_leads : (x : Bool) (anchor : Option (List ℕ))
    → Leads x (behind_if x (marked anchor)) (anchor_text anchor)
anchor_leads x None = stay_leads x
anchor_leads x (Some t) = word_leads x (38 ∷ t)

tag_leads : (x : Bool) (p : Context) (tag : Option (List ℕ))
    → Leads x (behind_if x (spelled p tag)) (tag_text p tag)
tag_leads x p None = stay_leads x
tag_leads x p (Some t) = word_leads x (tag_spelling p.directives t)

abbrev behind_properties : Bool → Context → Option (List ℕ) → Option (List ℕ) → Bool
behind_properties x p anchor tag = behind_if (behind_if x (marked anchor)) (spelled p tag)

new_line_leads : (x : Bool) (b : LineBreak) → Leads x true (new_line b)
new_line_leads x Lf k l h c w = ap (λ t. letter 10 ∷ t) (h _ refl)
new_line_leads x Cr k l h c w = ap (λ t. letter 13 ∷ t) (h _ refl)
new_line_leads x CrLf k l h c w = ap (λ t. letter 13 ∷ letter 10 ∷ t) (h _ refl)

indent_leads : (n : ℕ) → Leads true true (indent_to n)
indent_leads n k l h c w = blanks_lead true (n - c.column) k l h c w

breaks_line : (n : ℕ) (c : Cursor) → c.bare ≡ false → must_break n c ≡ true
breaks_line n c w = rw w refl

line_leads : (x : Bool) (b : LineBreak) (n : ℕ) → Leads x true (line b n)
unfolding line
line_leads false b n = leads_on false true true (choose (must_break n) (new_line b) stay) (indent_to n)
    (first_leads false true (must_break n) (new_line b) stay (breaks_line n) (new_line_leads false b)) (indent_leads n)
line_leads true b n = leads_on true true true (choose (must_break n) (new_line b) stay) (indent_to n)
    (choose_leads true true (must_break n) (new_line b) stay (new_line_leads true b) (stay_leads true)) (indent_leads n)

-- before a value's properties
value_leads : (x : Bool) (p : Context) (n : ℕ) (simple : Bool)
    → Leads x (not simple) (before_value p.settings false n simple)
unfolding before_value
value_leads x p n true = char_leads x 58
value_leads x p n false = leads_on x true true (line p.settings.line_break n) (indicator 58) (line_leads x p.settings.line_break n) (leads_on true true true gap _ (gap_leads true) (λ k l h c w. ap (λ t. letter 58 ∷ t) (h _ w)))

abbrev bare_at : Context → Bool → Start → Bool
bare_at p simple q = behind_properties (not simple) p q.anchor (start_tag p.settings.canonical q)

abbrev indent_at : Context → ℕ → Bool → Start → ℕ
indent_at p n simple q = block_indent_in p.settings (Some n) (not (bare_at p simple q))

value_stands : (p : Context) (n : ℕ) (simple : Bool) (q : Start) (items : Nodes)
    → is_flow p.settings (position false n part.Value) q (are_none items) ≡ false → (c : Cursor)
    (rest : Rest)
    → (before_value p.settings false n simple ▹ node_layout p (position false n part.Value)
    (sequence_node q items)) c rest
    ≡ (before_value p.settings false n simple ▹ properties_text p q.anchor
    (start_tag p.settings.canonical q) ▹ checked (indent_at p n simple q) ▹ items_layout p false
    (indent_at p n simple q) true items) c rest
unfolding node_layout
value_stands p n simple q items w c rest =
    rw w (leads_on c.bare (not simple) (bare_at p simple q) (before_value p.settings false n simple)
    (properties_text p q.anchor (start_tag p.settings.canonical q))
    (value_leads c.bare p n simple) (leads_on (not simple) _ _ (anchor_text q.anchor) (tag_text p (start_tag p.settings.canonical q)) (anchor_leads (not simple) q.anchor) (tag_leads _ p (start_tag p.settings.canonical q)))
    _ _ (λ e b. rw b refl) c refl)

pub values : ValuesStandByKeys
values p n simple q = (indent_at p n simple q, value_stands p n simple q)
