-- Calls one after another.
use Rattle.std.proofs.Common.{◌≡◌, ℕ, suc, ◌+◌, List, [], ◌∷◌, ◌++◌, length, refl, sym, ap, ◌∙◌, arith, append_assoc, append-nil, length-append}
use Rattle.yaml_round_laws.proofs.Words.{Encoding, Settings, encode, nothing_more, Event, let_out, laid, refusal_behind, text_from, Stand, first_stand, added, joined}
use Rattle.yaml_round_laws.specs.Calls.{LeadsIn, taken_up, Calls, no_call, call, CallsAreWholes}

-- where events wait, what is given after them is what is given with them
pub taken_leads : (x : Encoding) (s : Settings) (a b : Stand) (es : List Event)
    → LeadsIn x s (taken_up a) (a.held ++ es) b → LeadsIn x s a es b
taken_leads x s a b es l = record {
  bytes = λ more.
      ap (λ (z : List Event). encode x (text_from s a.state z a.cursor nothing_more)) (sym (append_assoc a.held es more)) ∙ l.bytes more;
  refusals = λ more.
      ap (refusal_behind s a.state) (sym (append_assoc a.held es more)) ∙ l.refusals more;
}

no_more : (xs ys : List ℕ) → xs ≡ xs ++ ys → ys ≡ []
no_more xs [] h = refl
no_more xs (y ∷ ys) h =
    let k : length xs ≡ length xs + suc (length ys) = ap length h ∙ length-append xs (y ∷ ys) in
    absurd (omega arith)

-- where events lead, nothing is written before others come
waits_in : (x : Encoding) (s : Settings) (a b : Stand) (es : List Event) → LeadsIn x s a es b
    → encode x (added s b []) ≡ []
waits_in x s a b es l = no_more (encode x (added s a es)) (encode x (added s b [])) (sym (ap (λ (z : List Event). encode x (added s a z)) (append-nil es)) ∙ l.bytes [])

calls_join : (x : Encoding) (s : Settings) (a : Stand) (pieces : List (List Event))
    (texts : List (List ℕ)) (b : Stand) → Calls x s a pieces texts b
    → encode x (added s a []) ≡ [] → joined texts ≡ encode x (added s a (joined pieces))
unfolding joined
calls_join x s _ _ _ _ (no_call a) h = sym h
calls_join x s _ _ _ _ (call a b c es pieces texts l k) h =
    let m = taken_leads x s a b es l in
    (ap (λ z. encode x (added s a es) ++ z) (calls_join x s b pieces texts c k (waits_in x s a b es m)) ∙ sym (m.bytes (joined pieces)))

calls_refuse : (x : Encoding) (s : Settings) (a : Stand) (pieces : List (List Event))
    (texts : List (List ℕ)) (b : Stand) (more : List Event) → Calls x s a pieces texts b
    → refusal_behind s a.state (a.held ++ (joined pieces ++ more))
    ≡ refusal_behind s b.state (b.held ++ more)
unfolding joined
calls_refuse x s _ _ _ _ more (no_call a) = refl
calls_refuse x s _ _ _ _ more (call a b c es pieces texts l k) =
    ap (λ (z : List Event). refusal_behind s a.state (a.held ++ z)) (append_assoc es (joined pieces) more)
    ∙ (taken_leads x s a b es l).refusals (joined pieces ++ more)
    ∙ calls_refuse x s b pieces texts c more k

first_writes : (x : Encoding) (s : Settings) → encode x (added s first_stand []) ≡ []
unfolding let_out laid encode
first_writes x s = refl

pub calls : CallsAreWholes
calls x s pieces texts b k =
    (calls_join x s first_stand pieces texts b k (first_writes x s), λ more. calls_refuse x s first_stand pieces texts b more k)
