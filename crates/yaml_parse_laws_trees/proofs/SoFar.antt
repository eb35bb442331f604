-- How many events have come by the time that each is given.
use Rattle.std.proofs.Common.{◌≡◌, ◌≤◌, ◌+◌, ◌*◌, ℕ, List, [], ◌∷◌, ◌++◌, length, map, Option, Some, None, subst, arith}
use Rattle.yaml_parse_laws_trees.proofs.Words.{Token, no_token, Fault, RawEvent, State, Given, Fed, stop, go, feed, Outcome, finished, carry, ending_at, run, initial, Directives, Settled, settle, Reading, read_on, reading, AtMostFourSoFar, EventsAreFewSoFar}
use Rattle.yaml_parse_laws_trees.proofs.Counts.{all_owe, owed, feed_owed, given, end_given}

-- ---- items

abbrev Few : ℕ → ℕ → List Given → Type 0
Few so_far all gs = AtMostFourSoFar so_far all gs

few_here : (so_far m left all n : ℕ) → m ≡ so_far + (1 + n) → m + 4 * left ≤ 4 * all
    → so_far + 1 + 4 * left ≤ 4 * all
few_here so_far m left all n e h = omega arith

one_on : (so_far m n : ℕ) → m ≡ so_far + (1 + n) → m ≡ so_far + 1 + n
one_on so_far m n e = omega arith

few_map : (is : List RawEvent) (left so_far all m : ℕ) (gs : List Given) → m ≡ so_far + length is
    → m + 4 * left ≤ 4 * all → Few m all gs
    → Few so_far all (map (λ (i : RawEvent). (i, left)) is ++ gs)
few_map [] left so_far all m gs e h k = subst (λ (x : ℕ). Few x all gs) (nothing_on so_far m e) k
  where
    nothing_on : (a b : ℕ) → b ≡ a + 0 → b ≡ a
    nothing_on a b p = omega arith
few_map (i ∷ is) left so_far all m gs e h k = (few_here so_far m left all (length is) (omega arith) h, few_map is left (so_far + 1) all m gs (one_on so_far m (length is) (omega arith)) h k)

few_last : (is : List RawEvent) (left so_far all m : ℕ) → m ≡ so_far + length is
    → m + 4 * left ≤ 4 * all → Few so_far all (map (λ (i : RawEvent). (i, left)) is)
few_last [] left so_far all m e h = tt
few_last (i ∷ is) left so_far all m e h = (few_here so_far m left all (length is) (omega arith) h, few_last is left (so_far + 1) all m (one_on so_far m (length is) (omega arith)) h)

-- ---- a list of tokens

few_ending : (s : List State) (e : Fault) (so_far all : ℕ) → Few so_far all (ending_at s e).items
few_ending s e so_far all = grind arith

few_ended : (fed : Fed) (so_far all owed : ℕ) → given fed ≤ owed → so_far + owed + 4 * 0 ≤ 4 * all
    → Few so_far all (carry 0 fed (λ _. finished)).items
few_ended (stop is f) so_far all n h k = few_last is 0 so_far all (so_far + length is) (omega arith) (omega arith)
few_ended (go is s) so_far all n h k = few_map is 0 so_far all (so_far + length is) [] (omega arith) (omega arith) tt

few_carried : (left : ℕ) (fed : Fed) (k : List State → Outcome) (so_far all n : ℕ)
    → owed fed ≤ 4 + n → so_far + n + 4 * (1 + left) ≤ 4 * all
    → ((s : List State) (m : ℕ) → m + all_owe s + 4 * left ≤ 4 * all → Few m all (k s).items)
    → Few so_far all (carry left fed k).items
few_carried left (stop is f) k so_far all n h b r = few_last is left so_far all (so_far + length is) (omega arith) (omega arith)
few_carried left (go is s) k so_far all n h b r = few_map is left so_far all (so_far + length is) (k s).items (omega arith) (omega arith) (r s (so_far + length is) (omega arith))

few_items : (ts : List Token) (f : Option Fault) (s : List State) (so_far all : ℕ)
    → so_far + all_owe s + 4 * length ts ≤ 4 * all → Few so_far all (run ts s f).items
unfolding run
few_items [] (Some e) s so_far all h = few_ending s e so_far all
few_items [] None s so_far all h = few_ended (feed s no_token) so_far all (all_owe s) (end_given s) h
few_items (t ∷ ts) f s so_far all h =
    few_carried (length ts) (feed s t) (λ s'. run ts s' f) so_far all (all_owe s) (feed_owed s t) (omega arith) (λ s' m k. few_items ts f s' m all k)

-- ---- resolved

few_on : (c : Settled) (i : RawEvent) (left so so_far all : ℕ) (k : Directives → Reading)
    → so ≤ so_far → so_far + 1 + 4 * left ≤ 4 * all
    → ((ds : Directives) (m : ℕ) → m ≤ so_far + 1 → AtMostFourSoFar m all (k ds).events)
    → AtMostFourSoFar so all (read_on c i left k).events
few_on c i left so so_far all k h b r = grind arith

few_read : (gs : List Given) (f : Option Fault) (ds : Directives) (so so_far all : ℕ) → so ≤ so_far
    → Few so_far all gs → AtMostFourSoFar so all (reading gs f ds).events
unfolding reading
few_read [] f ds so so_far all h k = tt
few_read (g ∷ gs) f ds so so_far all h k =
    few_on (settle g.0 ds) g.0 g.1 so so_far all (λ d. reading gs f d) h k.0 (λ d m l. few_read gs f d m (so_far + 1) all l k.1)

pub few_so_far : EventsAreFewSoFar
few_so_far ts f ds = few_read (run ts initial f).items (run ts initial f).ending ds 0 0 (length ts) (omega arith) (few_items ts f initial 0 (length ts) (omega arith))
