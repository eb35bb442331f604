-- Writes at places of one buffer, one after another.
use Rattle.std.proofs.Common.{◌≡◌, ℕ, ◌+◌, ◌-◌, ◌≤◌, List, ◌++◌, length, take, drop, ap, sym, ◌∙◌, arith, append_assoc, length-append, length-take-le, length-drop, take-add, take-take, take_at, drop_at, take_all, take-append-drop}
use Rattle.yaml_scan_runs.specs.Placed.{Placed}

-- a second write begins where the first ended
pub Placed-then : {a b c xs ys : List ℕ} {i j k : ℕ} → Placed a b i xs j → Placed b c j ys k
    → Placed a c i (xs ++ ys) k
Placed-then {a} {b} {c} {xs} {ys} {i} p q = record {
  bytes = q.bytes ∙ ap (λ l. l ++ ys) p.bytes ∙ append_assoc (take i a) xs ys;
  moved = omega (arith, p.moved, q.moved, length-append xs ys);
  len = q.len ∙ p.len;
}

-- only the first n bytes of a write are kept
pub Placed-less : {a b xs : List ℕ} {i j : ℕ} (n : ℕ) → i ≤ length a → n ≤ length xs
    → Placed a b i xs j → Placed a b i (take n xs) (i + n)
Placed-less {a} {b} {xs} {i} {j} n within few p =
    let front = length-take-le i a within in
    record {
      bytes = sym (take-take (i + n) j b (omega (arith, p.moved))) ∙ ap (take (i + n)) p.bytes ∙ take-add i n (take i a ++ xs)
          ∙ (λ k. take_at (take i a) xs i front k ++ take n (drop_at (take i a) xs i front k));
      moved = omega (arith, length-take-le n xs few);
      len = p.len;
    }

-- the first bytes of src, and its last ones, laid over them, are src
pub Placed-over : {a b c : List ℕ} {i j k : ℕ} (src : List ℕ) (done size : ℕ) → i ≤ length a
    → done ≤ length src
    → size ≤ length src → length src ≤ done + size
    → Placed a b i (take done src) j
    → Placed b c (i + (length src - size)) (take size (drop (length src - size) src)) k
    → Placed a c i src k
Placed-over {a} {b} {c} {i} {j} {k} src done size within few fits covers p q =
    let last = length src - size in
    let both = Placed-then (Placed-less last within (omega (arith, length-take-le done src few)) p) q in
    let whole : take last (take done src) ++ take size (drop last src) ≡ src =
    (λ x. take-take last done src (omega arith) x ++ take_all size (drop last src) (omega (arith, length-drop last src)) x) ∙ take-append-drop last src in
    record { bytes = both.bytes ∙ ap (λ l. take i a ++ l) whole; moved = both.moved ∙ ap (λ l. i + length l) whole; len = both.len }
