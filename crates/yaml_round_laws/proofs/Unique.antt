-- A content is that of one value.
use Rattle.std.proofs.Common.{◌≡◌, ℕ, true, false, List, [], ◌∷◌, Result, Ok, refl, ap, ◌∙◌, arith}
use Rattle.yaml_round_content.specs.scan_types.Faults.{Fault}
use Rattle.yaml_round_laws.proofs.JsonWords.{untagged, Json, bare, text, list, pairs, Jsons, nothing, one, JsonPairs, no_pairs, pair, content, contents, pair_contents, json_content}
use Rattle.yaml_round_content.specs.Said as said

-- ---- parts of contents

kind_of : said.Node → ℕ
kind_of (said.scalar anchor (untagged true) value) = 0
kind_of (said.scalar anchor (untagged false) value) = 1
kind_of (said.sequence anchor tag items) = 2
kind_of (said.mapping anchor tag rows) = 3
kind_of _ = 4

value_of : said.Node → List ℕ
value_of (said.scalar anchor mark value) = value
value_of _ = []

items_of : said.Node → said.Nodes
items_of (said.sequence anchor tag items) = items
items_of _ = said.no_nodes

pairs_of : said.Node → said.Pairs
pairs_of (said.mapping anchor tag rows) = rows
pairs_of _ = said.no_pairs

first_of : said.Node → said.Nodes → said.Node
first_of n said.no_nodes = n
first_of n (said.node m ms) = m

rest_of : said.Nodes → said.Nodes
rest_of said.no_nodes = said.no_nodes
rest_of (said.node m ms) = ms

count : said.Nodes → ℕ
count said.no_nodes = 0
count (said.node m ms) = 1

key_of : said.Pairs → List ℕ
key_of said.no_pairs = []
key_of (said.pair k v ps) = value_of k

behind_key : said.Node → said.Pairs → said.Node
behind_key n said.no_pairs = n
behind_key n (said.pair k v ps) = v

more_of : said.Pairs → said.Pairs
more_of said.no_pairs = said.no_pairs
more_of (said.pair k v ps) = ps

some : said.Pairs → ℕ
some said.no_pairs = 0
some (said.pair k v ps) = 1

-- ---- values

mutual
  unfolding kind_of value_of items_of pairs_of first_of rest_of count key_of behind_key more_of some

  one_value : (v w : Json) → content v ≡ content w → v ≡ w
  one_value (bare a) (bare b) e = ap bare (ap value_of e)
  one_value (bare a) (list ws) e = let h = ap kind_of e in absurd (omega (arith, h))
  one_value (bare a) (pairs qs) e = let h = ap kind_of e in absurd (omega (arith, h))
  one_value (text a) (bare b) e = let h = ap kind_of e in absurd (omega (arith, h))
  one_value (text a) (text b) e = ap text (ap value_of e)
  one_value (text a) (list ws) e = let h = ap kind_of e in absurd (omega (arith, h))
  one_value (text a) (pairs qs) e = let h = ap kind_of e in absurd (omega (arith, h))
  one_value (list vs) (bare b) e = let h = ap kind_of e in absurd (omega (arith, h))
  one_value (list vs) (list ws) e = ap list (one_list vs ws (ap items_of e))
  one_value (list vs) (pairs qs) e = let h = ap kind_of e in absurd (omega (arith, h))
  one_value (pairs ps) (bare b) e = let h = ap kind_of e in absurd (omega (arith, h))
  one_value (pairs ps) (list ws) e = let h = ap kind_of e in absurd (omega (arith, h))
  one_value (pairs ps) (pairs qs) e = ap pairs (one_row ps qs (ap pairs_of e))
  one_value _ (text b) e = let h = ap kind_of e in absurd (omega (arith, h))

  one_list : (vs ws : Jsons) → contents vs ≡ contents ws → vs ≡ ws
  one_list nothing nothing e = refl
  one_list nothing (one w ws) e = let h = ap count e in absurd (omega (arith, h))
  one_list (one v vs) nothing e = let h = ap count e in absurd (omega (arith, h))
  one_list (one v vs) (one w ws) e =
      ap (λ (x : Json). one x vs) (one_value v w (ap (λ (n : said.Nodes). first_of (content v) n) e)) ∙ ap (λ (xs : Jsons). one w xs) (one_list vs ws (ap rest_of e))

  one_row : (ps qs : JsonPairs) → pair_contents ps ≡ pair_contents qs → ps ≡ qs
  one_row no_pairs no_pairs e = refl
  one_row no_pairs (pair l w qs) e = let h = ap some e in absurd (omega (arith, h))
  one_row (pair k v ps) no_pairs e = let h = ap some e in absurd (omega (arith, h))
  one_row (pair k v ps) (pair l w qs) e =
      ap (λ (x : List ℕ). pair x v ps) (ap key_of e)
      ∙ ap (λ (x : Json). pair l x ps) (one_value v w (ap (λ (n : said.Pairs). behind_key (content v) n) e))
      ∙ ap (λ (xs : JsonPairs). pair l w xs) (one_row ps qs (ap more_of e))

-- ---- readings

root_of : said.Node → Result (List said.Document) Fault → said.Node
root_of n (Ok (d ∷ ds)) = d.root
root_of n _ = n

pub one_content : (v w : Json)
    → ◌≡◌ {A = Result (List said.Document) Fault} (Ok (json_content v ∷ []))
    (Ok (json_content w ∷ [])) → v ≡ w
unfolding root_of
one_content v w e = one_value v w (ap (λ (r : Result (List said.Document) Fault). root_of (content v) r) e)
