-- The documents of two streams, one after another.
use Rattle.std.proofs.Common.{◌≡◌, ℕ, suc, ◌+◌, ◌<◌, ◌≤◌, pos, List, [], ◌∷◌, ◌++◌, length, map, get_or, take, drop, min, refl, sym, subst, ◌∙◌, ap, inl, inr, arith, append_assoc, append-nil, add-one}
use Rattle.std.specs.Prelude.{◌⊎◌, ◌↔◌, Vec}
use Rattle.std.specs.declared.alloc.Global.{Global}
use Rattle.std.proofs.lemmas.List.{map-append, take_more, drop_more, take_all, drop_all}
use Rattle.yaml_parse_model.specs.Nodes.{Node}
use Rattle.yaml_parse_model.specs.Documents.{Document}
use Rattle.yaml_round_documents.specs.declared.difference.yaml_node_cause_t.{yaml_node_cause_t}
use Rattle.yaml_round_documents.specs.declared.difference.yaml_node_cause_t.TheVariants.{OnlyFirst, OnlySecond}
use Rattle.yaml_round_documents.specs.declared.difference.yaml_node_difference_t.{yaml_node_difference_t}
use Rattle.yaml_round_documents.specs.declared.streams.yaml_document_difference_t.{yaml_document_difference_t}
use Rattle.yaml_round_documents.specs.declared.streams.yaml_stream_differences_t.{yaml_stream_differences_t}
use Rattle.yaml_round_documents.specs.declared.walk.yaml_node_match_t.{yaml_node_match_t as Pair}
use Rattle.yaml_round_documents.specs.Differences.{AreDifferences}
use Rattle.yaml_round_documents.specs.Equal.{AreEqual}
use Rattle.yaml_round_documents.specs.Streams.{AreEqualStreams, AreStreamDifferences, TellsDocument, TellsTo, alone, in_document, told_alone_from}
use Rattle.yaml_round_documents.proofs.Distinct.{no_front}

-- ---- the differences of a document

pub put_start : (k : ℕ) (now : List yaml_document_difference_t) (ds : List yaml_node_difference_t)
    → now ≡ now ++ map (in_document k) (take 0 ds)
put_start k now ds = sym (append-nil now)

pub put_next : (k : ℕ) (ds : List yaml_node_difference_t) (at : ℕ) (d : yaml_node_difference_t)
    (start now : List yaml_document_difference_t)
    → now ≡ start ++ map (in_document k) (take at ds) → at < length ds
    → now ++ record { document = k; difference = get_or ds at d } ∷ []
    ≡ start ++ map (in_document k) (take (at + 1) ds)
put_next k ds at d start now h w =
    ap (λ z. z ++ in_document k (get_or ds at d) ∷ []) h
    ∙ append_assoc start (map (in_document k) (take at ds)) (in_document k (get_or ds at d) ∷ [])
    ∙ ap (λ z. start ++ z) (sym (map-append (in_document k) (take at ds) (get_or ds at d ∷ [])))
    ∙ ap (λ z. start ++ map (in_document k) z) (sym (take_more ds at d w))

pub put_all : (k : ℕ) (ds : List yaml_node_difference_t) (at : ℕ)
    (start now : List yaml_document_difference_t)
    → now ≡ start ++ map (in_document k) (take at ds) → length ds ≤ at
    → now ≡ start ++ map (in_document k) ds
put_all k ds at start now h w = h ∙ ap (λ z. start ++ map (in_document k) z) (take_all at ds w)

-- ---- those that one stream has alone

pub rest_next : (c : yaml_node_cause_t) (ds : List Document) (at : ℕ)
    (now all : List yaml_document_difference_t)
    → now ++ told_alone_from c at (drop at ds) ≡ all → at < length ds
    → (now ++ record { document = at; difference = record { pair = 0; first = pos 0; second = pos 0; cause = c; place = 0 } } ∷ [])
    ++ told_alone_from c (at + 1) (drop (at + 1) ds) ≡ all
rest_next c ds at now all h w =
    let d = first_of ds (λ e. absurd (omega (arith, ap length e))) in
    let rest = drop (at + 1) ds in
    append_assoc now (in_document at (alone c) ∷ []) (told_alone_from c (at + 1) rest)
    ∙ ap (λ k. now ++ (in_document at (alone c) ∷ told_alone_from c k rest)) (add-one at)
    ∙ ap (λ z. now ++ told_alone_from c at z) (sym (drop_more ds at d w)) ∙ h
  where
    first_of : (xs : List Document) → (xs ≡ [] → ⊥) → Document
    first_of [] n = absurd (n refl)
    first_of (x ∷ xs) n = x

pub rest_all : (c : yaml_node_cause_t) (ds : List Document) (at : ℕ)
    (now all : List yaml_document_difference_t)
    → now ++ told_alone_from c at (drop at ds) ≡ all → length ds ≤ at → now ≡ all
rest_all c ds at now all h w =
    sym (append-nil now) ∙ ap (λ z. now ++ told_alone_from c at z) (sym (drop_all at ds w)) ∙ h

-- ---- those that both have

pub document_told : (k : ℕ) (nodes others : List Node) (old new : yaml_stream_differences_t)
    (own : Vec Pair Global) (here part : List yaml_node_difference_t)
    → AreDifferences nodes others own.items here → ((here ≡ []) ↔ AreEqual nodes others)
    → part ≡ here → new.told.items ≡ old.told.items ++ map (in_document k) part
    → new.pairs.items ≡ old.pairs.items ++ own ∷ [] → TellsDocument k nodes others old new
document_told k nodes others old new own here part h e is told pairs =
    (own, here, pairs, told ∙ ap (λ z. old.told.items ++ map (in_document k) z) is, (h, e))

pub none_common : (ds es : List Document) (now : yaml_stream_differences_t)
    → TellsTo ds es 0 now now
none_common ds es now more rest h = (more, rest, refl, refl, h)

pub common_next : (ds es : List Document) (at : ℕ) (d e : Document)
    (start now new : yaml_stream_differences_t) → TellsTo ds es at start now → at < length ds
    → at < length es → TellsDocument at (get_or ds at d).nodes (get_or es at e).nodes now new
    → TellsTo ds es (at + 1) start new
common_next ds es at d e start now new h v w (own, here, ways, is, differences) more rest k =
    let pairs = own ∷ more in
    let told = map (in_document at) here ++ rest in
    let left : AreStreamDifferences (suc at) (drop (at + 1) ds) (drop (at + 1) es) more rest = subst (λ n. AreStreamDifferences n (drop (at + 1) ds) (drop (at + 1) es) more rest) (add-one at) k in
    let all = h pairs told (subst (λ z. AreStreamDifferences at z (drop at es) pairs told) (sym (drop_more ds at d v))
    (subst (λ z. AreStreamDifferences at (get_or ds at d ∷ drop (at + 1) ds) z pairs told) (sym (drop_more es at e w))
    (own, more, here, rest, refl, refl, differences, left))) in (
      all.0,
      all.1,
      ap (λ z. z ++ more) ways ∙ append_assoc now.pairs.items (own ∷ []) more ∙ all.2,
      ap (λ z. z ++ rest) is ∙ append_assoc now.told.items (map (in_document at) here) rest ∙ all.3,
      all.4,
    )

pub common_on : (ds es : List Document) (at : ℕ) (d e : Document)
    (start now new : yaml_stream_differences_t) → TellsTo ds es at start now
    → at < length ds → at < length es → d ≡ get_or ds at d → e ≡ get_or es at e
    → TellsDocument at d.nodes e.nodes now new → TellsTo ds es (at + 1) start new
common_on ds es at d e start now new h v w x y t =
    common_next ds es at d e start now new h v w
    (subst (λ (z : Document). TellsDocument at z.nodes (get_or es at e).nodes now new) x (subst (λ (z : Document). TellsDocument at d.nodes z.nodes now new) y t))

-- ---- all

first_left : (ds : List Document) (k : ℕ)
    → AreStreamDifferences k ds [] [] (told_alone_from OnlyFirst k ds)
first_left [] k = (refl, refl)
first_left (d ∷ ds) k = (refl, refl)

-- what comes after nothing is all
ends : {A : Type 0} (start now all : List A) → start ≡ [] → now ++ [] ≡ start ++ all → all ≡ now
ends start now all s e = sym (sym (append-nil now) ∙ e ∙ ap (λ z. z ++ all) s)

pub stream_told : (ds es : List Document) (k : ℕ) (start now : yaml_stream_differences_t)
    (mid new : List yaml_document_difference_t) → TellsTo ds es k start now
    → start.pairs.items ≡ [] → start.told.items ≡ [] → (length ds ≤ k) ⊎ (length es ≤ k)
    → mid ≡ now.told.items ++ told_alone_from OnlyFirst k (drop k ds)
    → new ≡ mid ++ told_alone_from OnlySecond k (drop k es)
    → AreStreamDifferences 0 ds es now.pairs.items new
stream_told ds es k start now mid new h p s (inl w) m n =
    let none = drop_all k ds w in
    let rest = told_alone_from OnlySecond k (drop k es) in
    let all = h [] rest (subst (λ z. AreStreamDifferences k z (drop k es) [] rest) (sym none) (refl, refl)) in
    let is : new ≡ all.1 = n ∙ ap (λ z. z ++ rest) (m ∙ ap (λ z. now.told.items ++ told_alone_from OnlyFirst k z) none ∙ append-nil now.told.items) ∙ all.3 ∙ ap (λ z. z ++ all.1) s in
    subst (λ z. AreStreamDifferences 0 ds es z new) (ends start.pairs.items now.pairs.items all.0 p all.2)
    (subst (AreStreamDifferences 0 ds es all.0) (sym is) all.4)
stream_told ds es k start now mid new h p s (inr w) m n =
    let none = drop_all k es w in
    let rest = told_alone_from OnlyFirst k (drop k ds) in
    let all = h [] rest (subst (λ z. AreStreamDifferences k (drop k ds) z [] rest) (sym none) (first_left (drop k ds) k)) in
    let is : new ≡ all.1 = n ∙ ap (λ z. mid ++ told_alone_from OnlySecond k z) none ∙ append-nil mid ∙ m ∙ all.3 ∙ ap (λ z. z ++ all.1) s in
    subst (λ z. AreStreamDifferences 0 ds es z new) (ends start.pairs.items now.pairs.items all.0 p all.2)
    (subst (AreStreamDifferences 0 ds es all.0) (sym is) all.4)

-- ---- the list is empty exactly where they are equal

none_mapped : (k : ℕ) (ds : List yaml_node_difference_t) → map (in_document k) ds ≡ [] → ds ≡ []
none_mapped k [] e = refl
none_mapped k (d ∷ ds) e = absurd (cc)

told_equal : (ds es : List Document) (k : ℕ) (pairs : List (Vec Pair Global))
    (told : List yaml_document_difference_t) → AreStreamDifferences k ds es pairs told
    → (told ≡ []) ↔ AreEqualStreams ds es
told_equal [] [] k pairs told h = (λ e. tt, λ s. h.1)
told_equal [] (e ∷ es) k pairs told h = (λ n. let w : told_alone_from OnlySecond k (e ∷ es) ≡ [] = sym h.1 ∙ n in absurd (cc), λ s. absurd s)
told_equal (d ∷ ds) [] k pairs told h = (λ n. let w : told_alone_from OnlyFirst k (d ∷ ds) ≡ [] = sym h.1 ∙ n in absurd (cc), λ s. absurd s)
told_equal (d ∷ ds) (e ∷ es) k pairs told (own, more, here, others, ways, is, law, left) =
    let rest = told_equal ds es (suc k) more others left in (
      λ n. let parts = no_front (map (in_document k) here) others (sym is ∙ n) in (law.1.0 (none_mapped k here parts.0), rest.0 parts.1),
      λ s. is ∙ ap (λ z. map (in_document k) z ++ others) (law.1.1 s.0) ∙ rest.1 s.1,
    )

pub stream_equal : (ds es : List Document) (pairs : List (Vec Pair Global))
    (told : List yaml_document_difference_t) → AreStreamDifferences 0 ds es pairs told
    → (told ≡ []) ↔ AreEqualStreams ds es
stream_equal ds es pairs told h = told_equal ds es 0 pairs told h

pub least : (n m k : ℕ) → k ≡ min n m → (k ≤ n) × (k ≤ m) × ((n ≤ k) ⊎ (m ≤ k))
least n m k e = grind arith
