-- Loops over what a node holds, and over nodes.
use Rattle.std.proofs.Common.{◌≡◌, ℕ, suc, ◌+◌, ◌<◌, ◌≤◌, ℤ, get_or, drop, add-one, Bool, true, false, List, [], ◌∷◌, ◌++◌, length, map, sym, subst, ◌∙◌, ap, arith, append_assoc, append-nil}
use Rattle.std.specs.Prelude.{◌==◌, ◌&&◌, not}
use Rattle.yaml_parse_model.specs.declared.yaml_node_pair_t.{yaml_node_pair_t}
use Rattle.yaml_emit_graph.specs.Graph.{number_at}
use Rattle.yaml_round_documents.specs.Ranks.{all_ranked, number_from, number_with, with_held}
use Rattle.yaml_round_documents.specs.Telling.{pair_keys}
use Rattle.yaml_round_documents.proofs.Meeting.{key_here, keys_all}
use Rattle.yaml_round_documents.proofs.Ranking.{is_positive}

put_one : (f : ℤ → ℕ) (id : ℤ) (now : List ℕ) (rest : List ℤ)
    → now ++ (f id ∷ map f rest) ≡ (now ++ f id ∷ []) ++ map f rest
put_one f id now rest = sym (append_assoc now (f id ∷ []) (map f rest))

-- one more is put
pub put_next : (f : ℤ → ℕ) (all : List ℕ) (n m k : ℕ) (now next : List ℕ) (held rest : List ℤ)
    (r : ℕ) (id : ℤ) → all ≡ with_held (n ∷ k ∷ now) (map f held) → held ≡ id ∷ rest
    → m ≡ number_with n r → next ≡ now ++ r ∷ [] → r ≡ f id
    → all ≡ with_held (m ∷ k ∷ next) (map f rest)
put_next f all n m k now next held rest r id h e t p is =
    let a : number_with n (f id) ≡ m = ap (number_with n) (sym is) ∙ sym t in
    let b : now ++ (f id ∷ map f rest) ≡ next ++ map f rest = put_one f id now rest
    ∙ ap (λ z. (now ++ z ∷ []) ++ map f rest) (sym is) ∙ ap (λ z. z ++ map f rest) (sym p) in
    h ∙ ap (λ z. with_held (n ∷ k ∷ now) (map f z)) e ∙ (λ i. number_from (a i) (map f rest) ∷ k ∷ b i)

-- none is left
pub put_done : (f : ℤ → ℕ) (all : List ℕ) (n k : ℕ) (now : List ℕ) (held : List ℤ)
    → all ≡ with_held (n ∷ k ∷ now) (map f held) → held ≡ [] → n ∷ k ∷ now ≡ all
put_done f all n k now held h e =
    sym (h ∙ ap (λ z. with_held (n ∷ k ∷ now) (map f z)) e ∙ ap (λ z. n ∷ k ∷ z) (append-nil now))

pub less_left : (held rest : List ℤ) (id : ℤ) → held ≡ id ∷ rest → length rest < length held
less_left held rest id e = let n = ap length e in omega arith

-- one more has a rank
pub ranked_next : (t : List ℕ) (all : Bool) (held rest : List ℤ) (r : ℕ) (id : ℤ)
    → all ≡ all_ranked t held → held ≡ id ∷ rest → r ≡ number_at t id → (r ≡ 0 → ⊥)
    → all ≡ all_ranked t rest
ranked_next t all held rest r id h e is some =
    let p : not (number_at t id == 0) ≡ true = is_positive _ (subst (λ z. 0 < z) is (omega arith)) in
    h ∙ ap (all_ranked t) e ∙ ap (λ b. b && all_ranked t rest) p

pub ranked_not : (t : List ℕ) (all : Bool) (held rest : List ℤ) (r : ℕ) (id : ℤ)
    → all ≡ all_ranked t held → held ≡ id ∷ rest → r ≡ number_at t id → r ≡ 0 → false ≡ all
ranked_not t all held rest r id h e is none =
    let z : number_at t id ≡ 0 = sym is ∙ none in
    sym (h ∙ ap (all_ranked t) e ∙ ap (λ n. not (n == 0) && all_ranked t rest) z)

pub ranked_all : (t : List ℕ) (all : Bool) (held : List ℤ) → all ≡ all_ranked t held → held ≡ []
    → true ≡ all
ranked_all t all held h e = sym (h ∙ ap (all_ranked t) e)

-- ---- these have ranks

pub have_next : (t : List ℕ) (ps : List yaml_node_pair_t) (i : ℕ) (d : yaml_node_pair_t) (key : ℤ)
    (r : ℕ) → all_ranked t (pair_keys ps) ≡ all_ranked t (pair_keys (drop i ps)) → i < length ps
    → r ≡ number_at t key → key ≡ (get_or ps i d).key → (r ≡ 0 → ⊥)
    → all_ranked t (pair_keys ps) ≡ all_ranked t (pair_keys (drop (i + 1) ps))
have_next t ps i d key r h w is at some =
    rw add-one (ranked_next t (all_ranked t (pair_keys ps)) (pair_keys (drop i ps)) (pair_keys (drop (suc i) ps)) r (get_or ps i d).key h (key_here ps i d w) (is ∙ ap (number_at t) at) some)

pub have_not : (t : List ℕ) (ps : List yaml_node_pair_t) (i : ℕ) (d : yaml_node_pair_t) (key : ℤ)
    (r : ℕ) → all_ranked t (pair_keys ps) ≡ all_ranked t (pair_keys (drop i ps)) → i < length ps
    → r ≡ number_at t key → key ≡ (get_or ps i d).key → r ≡ 0 → false ≡ all_ranked t (pair_keys ps)
have_not t ps i d key r h w is at none =
    ranked_not t (all_ranked t (pair_keys ps)) (pair_keys (drop i ps)) (pair_keys (drop (suc i) ps)) r (get_or ps i d).key h (key_here ps i d w) (is ∙ ap (number_at t) at) none

pub have_all : (t : List ℕ) (ps : List yaml_node_pair_t) (i : ℕ)
    → all_ranked t (pair_keys ps) ≡ all_ranked t (pair_keys (drop i ps)) → length ps ≤ i
    → true ≡ all_ranked t (pair_keys ps)
have_all t ps i h w = ranked_all t (all_ranked t (pair_keys ps)) (pair_keys (drop i ps)) h (keys_all ps i w).0
