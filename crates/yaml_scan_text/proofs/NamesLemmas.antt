-- Names and URIs.
use Rattle.std.proofs.Common.{◌≡◌, ◌≢◌, ℕ, ◌+◌, ◌-◌, ◌<◌, ◌≤◌, ◌==◌, ◌||◌, not, Bool, true, false, List, [], ◌∷◌, ◌++◌, length, length-append, slice_range, Option, Some, None, IsSome, Result, Ok, Err, refl, sym, ap, ◌∙◌, inl, inr, append_assoc, append-nil, arith}
use Rattle.yaml_scan_text.proofs.Words.{nat_tests, cases_Bool, cases_lt, lt-ltb, ne_eqb, true≢false, false≢true, byte, break_width, within, no_break, slice_bytes, bytes_long, Wrong, wrong_of, IsMemory}
use Rattle.yaml_scan_model.specs.declared.problem.Context.{Context}
use Rattle.yaml_scan_model.specs.declared.problem.Problem.TheVariants as problems
use Rattle.yaml_scan_types.specs.Classes.{is_alpha_byte}
use Rattle.yaml_scan_history.specs.declared.run.Run.TheVariants as runs
use Rattle.yaml_scan_history.specs.Anchors.{anchor_at, may_end_name, name_between}
use Rattle.yaml_scan_history.specs.Runs.{belongs, run_end}
use Rattle.yaml_scan_history.proofs.WordsRunsLemmas.{alpha_range, run_is}
use Rattle.yaml_scan_history.specs.Uris.{Ends, Faulty, IsKept, Spells, UriSpot, is_uri, octet_at, octet_spot, spot_at, uri_at, with_bytes}
use Rattle.yaml_scan_history.proofs.UrisLemmas.{bytes_twice, octet_digits, spot_ends, uri_behind, uri_due, uri_here, uri_plain, uri_range}
use Rattle.yaml_scan_text.specs.declared.refusal.Refusal.{Refusal}
use Rattle.yaml_scan_text.specs.declared.refusal.Refusal.TheVariants as refusals
use Rattle.yaml_scan_text.specs.Classes.{AreAlphas}
use Rattle.yaml_scan_text.specs.NamesRead.{IsKeptBehind, PutsOctet, ReadsName, ReadsUri}
use Rattle.yaml_scan_text.specs.QuotedRead.{ArePlain}
use Rattle.yaml_scan_text.specs.declared.refusal.Wrong.{Wrong as Told}

-- ---- alphas

pub record Alphas (text : List ℕ) (p q : ℕ) : Type 0 where
  pub forward : p ≤ q
  pub each : (k : ℕ) → p ≤ k → k < q → is_alpha_byte (byte text k) ≡ true

pub alphas_none : (text : List ℕ) (p : ℕ) → Alphas text p p
alphas_none text p = record { forward = omega arith; each = λ k a b. absurd (omega arith) }

run_ends : (text : List ℕ) (p q : ℕ) → Alphas text p q → is_alpha_byte (byte text q) ≡ false
    → q ≡ run_end runs.Alphas text p
unfolding belongs
run_ends text p q s h = sym (run_is runs.Alphas text p q s.forward s.each h)

pub alphas_done : (text : List ℕ) (p q : ℕ) → Alphas text p q → q ≤ length text
    → is_alpha_byte (byte text q) ≡ false → AreAlphas text p q
alphas_done text p q s inside h = record { end = run_ends text p q s h; forward = s.forward; inside = inside; each = s.each }

-- the text's end is none
alpha_some : (b : ℕ) → is_alpha_byte b ≡ true → (0 < b) × (b < 128)
alpha_some b h = let (low, high, angle) = alpha_range b h in (omega arith, omega arith)

pub alphas_stop : (text : List ℕ) (q : ℕ) → length text ≤ q → is_alpha_byte (byte text q) ≡ false
alphas_stop text q past = elim (cases_Bool (is_alpha_byte (byte text q))) [
  | inl a ↦ absurd (let inside = within text q (alpha_some (byte text q) a).0 in omega arith)
  | inr n ↦ n
]

pub alphas_plain : (text : List ℕ) (p q : ℕ) → AreAlphas text p q → ArePlain text p q
alphas_plain text p q s = record {
  forward = s.forward;
  each = λ k a b. let (low, high, angle) = alpha_range (byte text k) (s.each k a b) in (omega arith, omega arith, no_break _ _ _ (omega arith) (omega arith) (omega arith) (omega arith));
}

-- ---- names

name_same : (context : Context) (text : List ℕ) (p q : ℕ) (r : Result (List ℕ × ℕ) Wrong)
    → q ≡ run_end runs.Alphas text p → name_between context text p q ≡ r
    → name_between context text p (run_end runs.Alphas text p) ≡ r
name_same context text p q r e h = rw e at h

pub name_refused : (context : Context) (text : List ℕ) (start q : ℕ) (told : Told)
    → AreAlphas text (start + 1) q
    → not (start + 1 == q || not (may_end_name text q)) ≡ false
    → wrong_of told ≡ record { problem = problems.NoAlphanumeric; context = context; place = q } → ReadsName text start (Err told) (anchor_at context text start)
name_refused context text start q told run h e =
    let bad : (start + 1 == q || not (may_end_name text q)) ≡ true = unnot _ h in
    let is : name_between context text (start + 1) q ≡ Err (record { problem = problems.NoAlphanumeric; context = context; place = q }) = rw bad refl in
    rw (name_same context text (start + 1) q _ run.end is) e
  where
    unnot : (b : Bool) → not b ≡ false → b ≡ true
    unnot b h = grind arith

pub name_read : (context : Context) (text : List ℕ) (start q : ℕ) → AreAlphas text (start + 1) q
    → not (start + 1 == q || not (may_end_name text q)) ≡ true → ReadsName text start (Ok q) (anchor_at context text start)
name_read context text start q run h =
    let fine : (start + 1 == q || not (may_end_name text q)) ≡ false = unnot _ h in
    let is : name_between context text (start + 1) q ≡ Ok (slice_range text (start + 1) q, q) = rw fine refl in
    let forward = run.forward in
    rw (name_same context text (start + 1) q _ run.end is) (record {
      name = refl;
      end = refl;
      some = other (start + 1) q (not (may_end_name text q)) run.forward fine;
      inside = run.inside;
      plain = alphas_plain text (start + 1) q run;
    })
  where
    unnot : (b : Bool) → not b ≡ true → b ≡ false
    unnot b h = grind arith

    other : (a b : ℕ) (r : Bool) → a ≤ b → (a == b || r) ≡ false → a < b
    other a b r l h = grind (arith, nat_tests)

-- ---- URIs

kept_plain : (wide : Bool) (text : List ℕ) (p q : ℕ) → IsKept wide text p q → ArePlain text p q
kept_plain wide text p q run = record {
  forward = run.forward;
  each = λ k a b. let (low, high) = uri_range wide text k (run.kept k a b) in (omega arith, omega arith, no_break _ _ _ (omega arith) (omega arith) (omega arith) (omega arith));
}

pub plain_join : (text : List ℕ) (p q r : ℕ) → ArePlain text p q → ArePlain text q r
    → ArePlain text p r
plain_join text p q r a b = record {
  forward = omega (arith, a.forward, b.forward);
  each = λ k l m. elim (cases_lt k q) [ inl n ↦ a.each k l n | inr n ↦ b.each k n m ];
}

no_bytes : (r : Result (List ℕ × ℕ) Wrong) → r ≡ with_bytes [] r
no_bytes (Ok u) = refl
no_bytes (Err w) = refl

pub kept_none : (wide : Bool) (due : ℕ) (text : List ℕ) (p : ℕ) (old : List ℕ) → 0 < due
    → p ≤ length text → IsKeptBehind wide due text p old old p
kept_none wide due text p old some inside = record {
  more = [];
  is = sym (append-nil old);
  rest = λ context. no_bytes (uri_due context wide due text p);
  stop = λ z. absurd (omega arith);
  inside = inside;
  plain = record { forward = omega arith; each = λ k a b. absurd (omega arith) };
}

pub kept_run : (wide : Bool) (due : ℕ) (text : List ℕ) (p q : ℕ) (old new : List ℕ) → due ≡ 0
    → IsKept wide text p q → q ≤ length text
    → new ≡ old ++ slice_range text p q → IsKeptBehind wide due text p old new q
kept_run wide due text p q old new z run inside e = rw z (record {
  more = slice_range text p q;
  is = e;
  rest = λ context. uri_behind context wide text p q run;
  stop = λ w. run.stop;
  inside = inside;
  plain = kept_plain wide text p q run;
})

slice_long : (text : List ℕ) (p q : ℕ) → p ≤ q → q ≤ length text
    → length (slice_range text p q) ≡ q - p
slice_long text p q l inside = rw (slice_bytes text p (q - p) (omega arith)) (bytes_long text p (q - p))

pub long_none : (xs : List ℕ) → length xs ≡ 0 → xs ≡ []
long_none [] h = refl
long_none (x ∷ xs) h = absurd (omega arith)

-- a URI, as far as it is spelled out
pub record Spelled (context : Context) (wide : Bool) (text : List ℕ) (p : ℕ) (old new : List ℕ) (q due : ℕ) : Type 0 where
  pub done : List ℕ
  pub is : new ≡ old ++ done
  pub rest : uri_at context wide text p ≡ with_bytes done (uri_due context wide due text q)
  pub stop : due ≡ 0 → is_uri wide text q ≡ false
  pub inside : q ≤ length text
  pub some : p < q → 0 < length done
  pub none : q ≡ p → done ≡ []
  pub plain : ArePlain text p q

pub spelled_first : (context : Context) (wide : Bool) (text : List ℕ) (p q : ℕ) (old new : List ℕ)
    → IsKept wide text p q → q ≤ length text
    → new ≡ old ++ slice_range text p q → Spelled context wide text p old new q 0
spelled_first context wide text p q old new run inside e =
    let forward = run.forward in
    let long = slice_long text p q run.forward inside in
    record {
      done = slice_range text p q;
      is = e;
      rest = uri_behind context wide text p q run;
      stop = λ z. run.stop;
      inside = inside;
      some = λ l. omega arith;
      none = λ z. long_none (slice_range text p q) (omega arith);
      plain = kept_plain wide text p q run;
    }

octet_some : (due p b left q : ℕ) (o : Option ℕ) → octet_spot due p o ≡ Spells b left q → IsSome o
octet_some due p b left q None h = absurd (cc)
octet_some due p b left q (Some x) h = refl

-- an escape's bytes
escape_plain : (text : List ℕ) (p due b left q : ℕ) → byte text p ≡ 37
    → octet_spot due p (octet_at text p) ≡ Spells b left q
    → (ArePlain text p (p + 3)) × (p + 3 ≤ length text)
escape_plain text p due b left q mark spot =
    let (one, two) = octet_digits text p (octet_some due p b left q (octet_at text p) spot) in
    let (low1, high1) = one in
    let (low2, high2) = two in
    let last = within text (p + 2) (omega arith) in (
      record {
        forward = omega arith;
        each = λ k l m. elim (cases_lt p k) [
          | inl n ↦ elim (cases_lt (p + 1) k) [
            | inl o ↦ let e : k ≡ p + 2 = omega arith in rw e (low_plain text (p + 2) (omega arith) (omega arith))
            | inr o ↦ let e : k ≡ p + 1 = omega arith in rw e (low_plain text (p + 1) (omega arith) (omega arith))
          ]
          | inr n ↦ let e : k ≡ p = omega arith in rw e (low_plain text p (omega arith) (omega arith))
        ];
      },
      omega arith,
    )
  where
    low_plain : (text : List ℕ) (k : ℕ) → 31 < byte text k → byte text k < 127 → (0 < byte text k) × (byte text k < 128) × (break_width text k ≡ 0)
    low_plain text k low high = (omega arith, omega arith, no_break _ _ _ (omega arith) (omega arith) (omega arith) (omega arith))

spot_escape : (wide : Bool) (due : ℕ) (text : List ℕ) (p : ℕ) → byte text p ≡ 37
    → spot_at wide due text p ≡ octet_spot due p (octet_at text p)
unfolding spot_at
spot_escape wide due text p h = rw h refl

-- after an escape
pub record IsOctet (text : List ℕ) (p due left : ℕ) (old new : List ℕ) : Type 0 where
  pub octet : ℕ
  pub spot : octet_spot due p (octet_at text p) ≡ Spells octet left (p + 3)
  pub is : new ≡ old ++ octet ∷ []
  pub plain : ArePlain text p (p + 3)
  pub inside : p + 3 ≤ length text

octet_by : (context : Context) (text : List ℕ) (p due left : ℕ) (old new : List ℕ) (s : UriSpot)
    → byte text p ≡ 37 → octet_spot due p (octet_at text p) ≡ s
    → PutsOctet context p old new (Ok left) s → IsOctet text p due left old new
octet_by context text p due left old new (Spells b d q) mark is (e, f, g) =
    let spot : octet_spot due p (octet_at text p) ≡ Spells b left (p + 3) = is ∙ rw (← e, f) refl in
    let (plain, inside) = escape_plain text p due b left (p + 3) mark spot in
    record { octet = b; spot = spot; is = g; plain = plain; inside = inside }
octet_by context text p due left old new (Ends q) mark is h = absurd h
octet_by context text p due left old new (Faulty problem q) mark is h = absurd h

pub octet_put : (context : Context) (text : List ℕ) (p due left : ℕ) (old new : List ℕ)
    → byte text p ≡ 37
    → PutsOctet context p old new (Ok left) (octet_spot due p (octet_at text p)) → IsOctet text p due left old new
octet_put context text p due left old new mark h = octet_by context text p due left old new (octet_spot due p (octet_at text p)) mark refl h

pub spelled_next : (context : Context) (wide : Bool) (text : List ℕ) (p : ℕ)
    (old mid put new : List ℕ) (q due left r : ℕ) → Spelled context wide text p old mid q due
    → byte text q ≡ 37 → IsOctet text q due left mid put → IsKeptBehind wide left text (q + 3) put new r → Spelled context wide text p old new r left
spelled_next context wide text p old mid put new q due left r s mark o k =
    let here : uri_due context wide due text q ≡ with_bytes (o.octet ∷ []) (uri_due context wide left text (q + 3)) = uri_here context wide due text q ∙ rw (spot_escape wide due text q mark ∙ o.spot) refl in
    let more = s.done ++ (o.octet ∷ [] ++ k.more) in
    let long = length-append s.done (o.octet ∷ [] ++ k.more) in
    let forward = k.plain.forward in
    let front = s.plain.forward in
    record {
      done = more;
      is = k.is ∙ rw (o.is, s.is) (rw append_assoc (rw append_assoc refl));
      rest = s.rest ∙ ap (with_bytes s.done) (here ∙ ap (with_bytes (o.octet ∷ [])) (k.rest context) ∙ bytes_twice (o.octet ∷ []) k.more (uri_due context wide left text r)) ∙ bytes_twice s.done (o.octet ∷ [] ++ k.more) (uri_due context wide left text r);
      stop = k.stop;
      inside = k.inside;
      some = λ l. omega arith;
      none = λ z. absurd (omega arith);
      plain = plain_join text p (q + 3) r (plain_join text p q (q + 3) s.plain o.plain) k.plain;
    }

pub spelled_end : (context : Context) (wide : Bool) (text : List ℕ) (p : ℕ) (old new : List ℕ)
    (q due : ℕ) → Spelled context wide text p old new q due
    → byte text q ≢ 37 → due ≡ 0 → ReadsUri text p old new (Ok (record { end = q; joined = true })) (uri_at context wide text p)
spelled_end context wide text p old new q due s mark z =
    let here : uri_due context wide due text q ≡ Ok ([], q) = rw z (uri_here context wide 0 text q ∙ rw (spot_ends wide text q (ne_eqb (byte text q) 37 mark) (s.stop z)) refl) in
    rw (s.rest, here, append-nil s.done) (record {
      joined = λ j. s.is;
      stands = λ j. absurd (true≢false j);
      end = refl;
      inside = s.inside;
      none = s.none;
      some = s.some;
      plain = s.plain;
    })

spot_due : (wide : Bool) (due : ℕ) (text : List ℕ) (p : ℕ) → (byte text p == 37) ≡ false → 0 < due
    → spot_at wide due text p ≡ Faulty problems.NoEscapedOctet p
unfolding spot_at
spot_due wide due text p h some = rw (h, lt-ltb 0 due some) refl

pub spelled_due : (context : Context) (wide : Bool) (text : List ℕ) (p : ℕ) (old new : List ℕ)
    (q due : ℕ) (told : Told) → Spelled context wide text p old new q due
    → byte text q ≢ 37 → 0 < due → wrong_of told ≡ record { problem = problems.NoEscapedOctet; context = context; place = q }
    → ReadsUri text p old new (Err (refusals.Wrong told)) (uri_at context wide text p)
spelled_due context wide text p old new q due told s mark some e =
    let here : uri_due context wide due text q ≡ Err (record { problem = problems.NoEscapedOctet; context = context; place = q }) = uri_here context wide due text q ∙ rw (spot_due wide due text q (ne_eqb (byte text q) 37 mark) some) refl in
    rw (s.rest, here) e

pub uri_memory : (text : List ℕ) (p : ℕ) (old new : List ℕ) (e : Refusal)
    (x : Result (List ℕ × ℕ) Wrong) → IsMemory e → ReadsUri text p old new (Err e) x
uri_memory text p old new e (Ok x) h = h
uri_memory text p old new refusals.Memory (Err w) h = tt
uri_memory text p old new (refusals.Wrong told) (Err w) h = absurd h

refused_by : (context : Context) (wide : Bool) (text : List ℕ) (p : ℕ) (old mid new : List ℕ)
    (q due : ℕ) (e : Refusal) (t : UriSpot) → Spelled context wide text p old mid q due
    → byte text q ≡ 37 → octet_spot due q (octet_at text q) ≡ t → PutsOctet context q mid new (Err e) t → ReadsUri text p old new (Err e) (uri_at context wide text p)
refused_by context wide text p old mid new q due e (Spells b d r) s mark is h = uri_memory text p old new e (uri_at context wide text p) h
refused_by context wide text p old mid new q due e (Ends r) s mark is h = absurd h
refused_by context wide text p old mid new q due e (Faulty problem r) s mark is h =
    let here : uri_due context wide due text q ≡ Err (record { problem = problem; context = context; place = r }) = uri_here context wide due text q ∙ rw (spot_escape wide due text q mark ∙ is) refl in
    rw (s.rest, here) h

pub spelled_refused : (context : Context) (wide : Bool) (text : List ℕ) (p : ℕ)
    (old mid new : List ℕ) (q due : ℕ) (e : Refusal) → Spelled context wide text p old mid q due
    → byte text q ≡ 37 → PutsOctet context q mid new (Err e) (octet_spot due q (octet_at text q)) → ReadsUri text p old new (Err e) (uri_at context wide text p)
spelled_refused context wide text p old mid new q due e s mark h = refused_by context wide text p old mid new q due e (octet_spot due q (octet_at text q)) s mark refl h

-- a URI without escapes
pub plain_read : (context : Context) (wide : Bool) (text : List ℕ) (p q : ℕ) (old : List ℕ)
    → IsKept wide text p q → q ≤ length text → byte text q ≢ 37
    → ReadsUri text p old old (Ok (record { end = q; joined = false })) (uri_at context wide text p)
plain_read context wide text p q old run inside mark =
    let forward = run.forward in
    let long = slice_long text p q run.forward inside in
    rw (uri_plain context wide text p q run mark) (record {
      joined = λ j. absurd (false≢true j);
      stands = λ j. (refl, refl);
      end = refl;
      inside = inside;
      none = λ z. long_none (slice_range text p q) (omega arith);
      some = λ l. omega arith;
      plain = kept_plain wide text p q run;
    })
