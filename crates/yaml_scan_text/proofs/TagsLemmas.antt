-- Tags.
use Rattle.std.proofs.Common.{◌≡◌, ◌≢◌, ℕ, ◌+◌, ◌-◌, ◌<◌, Bool, true, false, List, [], ◌∷◌, ◌++◌, length, slice_range, Result, Ok, Err, refl, ◌∙◌, append-nil, arith}
use Rattle.yaml_scan_text.proofs.Words.{eq-eqb, ne_eqb, false≢true, byte, within, no_break, slice_bytes, bytes_more, bytes_none, Wrong}
use Rattle.yaml_scan_model.specs.declared.problem.Context.TheVariants as contexts
use Rattle.yaml_scan_history.specs.Tags.{bare, bare_at, bracketed, name_end, named_at, parts_at, verbatim_at, with_handle}
use Rattle.yaml_scan_history.specs.Uris.{some_uri_at, uri_at}
use Rattle.yaml_scan_text.specs.Classes.{AreAlphas}
use Rattle.yaml_scan_text.specs.NamesRead.{ReadsUri}
use Rattle.yaml_scan_text.specs.TagsRead.{ReadsTag}
use Rattle.yaml_scan_text.specs.QuotedRead.{ArePlain}
use Rattle.yaml_scan_text.specs.declared.uri.Uri.{Uri}
use Rattle.yaml_scan_text.proofs.NamesLemmas.{alphas_plain, plain_join}

pub parts_verbatim : (text : List ℕ) (p : ℕ) → byte text (p + 1) ≡ 60
    → parts_at text p ≡ verbatim_at text p
unfolding parts_at
parts_verbatim text p h = rw (eq-eqb (byte text (p + 1)) 60 h) refl

pub parts_named : (text : List ℕ) (p name : ℕ) → byte text (p + 1) ≢ 60
    → AreAlphas text (p + 1) name → byte text name ≡ 33 → parts_at text p ≡ named_at text p
unfolding parts_at
parts_named text p name h run mark =
    let there : byte text (name_end text p) ≡ 33 = rw run.end at mark in
    rw (ne_eqb (byte text (p + 1)) 60 h, eq-eqb (byte text (name_end text p)) 33 there) refl

pub parts_bare : (text : List ℕ) (p name : ℕ) → byte text (p + 1) ≢ 60
    → AreAlphas text (p + 1) name → byte text name ≢ 33 → parts_at text p ≡ bare_at text p
unfolding parts_at
parts_bare text p name h run mark =
    let there : byte text (name_end text p) ≢ 33 = rw run.end at mark in
    rw (ne_eqb (byte text (p + 1)) 60 h, ne_eqb (byte text (name_end text p)) 33 there) refl

-- a printed character
one_plain : (text : List ℕ) (p : ℕ) → 31 < byte text p → byte text p < 127 → ArePlain text p (p + 1)
one_plain text p low high = record {
  forward = omega arith;
  each = λ k a b. let e : k ≡ p = omega arith in rw e (omega arith, omega arith, no_break _ _ _ (omega arith) (omega arith) (omega arith) (omega arith));
}

slice_none : (text : List ℕ) (p : ℕ) → slice_range text p p ≡ []
slice_none text p = let z : p - p ≡ 0 = omega arith in rw z refl

slice_one : (text : List ℕ) (p : ℕ) → p < length text
    → slice_range text p (p + 1) ≡ byte text p ∷ []
slice_one text p inside =
    let d : p + 1 - p ≡ 1 = omega arith in
    rw (slice_bytes text p (p + 1 - p) (omega arith), d, bytes_more text p 0, bytes_none text (p + 1)) refl

verbatim_by : (text : List ℕ) (p : ℕ) (old new : List ℕ) (u : Uri) (r : Result (List ℕ × ℕ) Wrong)
    → byte text p ≡ 33 → byte text (p + 1) ≡ 60
    → ReadsUri text (p + 2) old new (Ok u) r → byte text u.end ≡ 62
    → ReadsTag text p old new (Ok (record { handle = p; from = p + 2; to = u.end; joined = u.joined; end = u.end + 1 })) (bracketed text r)
verbatim_by text p old new u (Err w) mark angle is close = absurd is
verbatim_by text p old new u (Ok x) mark angle is close =
    let there : byte text x.1 ≡ 62 = rw is.end at close in
    let inside = within text u.end (omega arith) in
    let two : p + 1 + 1 ≡ p + 2 = omega arith in
    let front : ArePlain text p (p + 2) = plain_join text p (p + 1) (p + 2) (one_plain text p (omega arith) (omega arith)) (rw two at (one_plain text (p + 1) (omega arith) (omega arith))) in
    rw (eq-eqb (byte text x.1) 62 there) (record {
      handle = slice_none text p;
      joined = is.joined;
      stands = is.stands;
      front = omega arith;
      within = omega (arith, is.plain.forward);
      order = is.plain.forward;
      last = omega arith;
      end = rw is.end refl;
      inside = omega arith;
      plain = plain_join text p u.end (u.end + 1) (plain_join text p (p + 2) u.end front is.plain) (one_plain text u.end (omega arith) (omega arith));
    })

pub verbatim_read : (text : List ℕ) (p : ℕ) (old new : List ℕ) (u : Uri) → byte text p ≡ 33
    → byte text (p + 1) ≡ 60
    → ReadsUri text (p + 2) old new (Ok u) (some_uri_at contexts.TagUri true text (p + 2)) → byte text u.end ≡ 62
    → ReadsTag text p old new (Ok (record { handle = p; from = p + 2; to = u.end; joined = u.joined; end = u.end + 1 })) (verbatim_at text p)
verbatim_read text p old new u mark angle is close = verbatim_by text p old new u (some_uri_at contexts.TagUri true text (p + 2)) mark angle is close

named_by : (text : List ℕ) (p name : ℕ) (old new : List ℕ) (u : Uri)
    (r : Result (List ℕ × ℕ) Wrong) → byte text p ≡ 33 → AreAlphas text (p + 1) name
    → byte text name ≡ 33
    → ReadsUri text (name + 1) old new (Ok u) r
    → ReadsTag text p old new (Ok (record { handle = name + 1; from = name + 1; to = u.end; joined = u.joined; end = u.end })) (with_handle (slice_range text p (name + 1)) r)
named_by text p name old new u (Err w) mark run second is = absurd is
named_by text p name old new u (Ok x) mark run second is = record {
  handle = refl;
  joined = is.joined;
  stands = is.stands;
  front = omega (arith, run.forward);
  within = is.plain.forward;
  order = is.plain.forward;
  last = omega arith;
  end = is.end;
  inside = is.inside;
  plain = plain_join text p (name + 1) u.end (plain_join text p name (name + 1) (plain_join text p (p + 1) name (one_plain text p (omega arith) (omega arith)) (alphas_plain text (p + 1) name run)) (one_plain text name (omega arith) (omega arith))) is.plain;
}

pub named_read : (text : List ℕ) (p name : ℕ) (old new : List ℕ) (u : Uri) → byte text p ≡ 33
    → AreAlphas text (p + 1) name → byte text name ≡ 33
    → ReadsUri text (name + 1) old new (Ok u) (some_uri_at contexts.TagUri false text (name + 1))
    → ReadsTag text p old new (Ok (record { handle = name + 1; from = name + 1; to = u.end; joined = u.joined; end = u.end })) (named_at text p)
named_read text p name old new u mark run second is =
    rw (← run.end) (named_by text p name old new u (some_uri_at contexts.TagUri false text (name + 1)) mark run second is)

bare_by : (text : List ℕ) (p : ℕ) (old new : List ℕ) (u : Uri) (r : Result (List ℕ × ℕ) Wrong)
    → byte text p ≡ 33
    → ReadsUri text (p + 1) old new (Ok u) r → u.end ≢ p + 1
    → ReadsTag text p old new (Ok (record { handle = p + 1; from = p + 1; to = u.end; joined = u.joined; end = u.end })) (bare r)
bare_by text p old new u (Err w) mark is other = absurd is
bare_by text p old new u (Ok x) mark is other =
    let forward = is.plain.forward in
    let some = is.some (omega arith) in
    let inside = within text p (omega arith) in
    let first : byte text p ∷ [] ≡ 33 ∷ [] = rw mark refl in
    rw (ne_eqb (length x.0) 0 (λ z. absurd (omega arith))) (record {
      handle = slice_one text p inside ∙ first;
      joined = is.joined;
      stands = is.stands;
      front = omega arith;
      within = forward;
      order = forward;
      last = omega arith;
      end = is.end;
      inside = is.inside;
      plain = plain_join text p (p + 1) u.end (one_plain text p (omega arith) (omega arith)) is.plain;
    })

pub bare_read : (text : List ℕ) (p : ℕ) (old new : List ℕ) (u : Uri) → byte text p ≡ 33
    → ReadsUri text (p + 1) old new (Ok u) (uri_at contexts.TagUri false text (p + 1)) → u.end ≢ p + 1
    → ReadsTag text p old new (Ok (record { handle = p + 1; from = p + 1; to = u.end; joined = u.joined; end = u.end })) (bare_at text p)
bare_read text p old new u mark is other = bare_by text p old new u (uri_at contexts.TagUri false text (p + 1)) mark is other

same_by : (j : Bool) (old new bytes : List ℕ) → bytes ≡ [] → (j ≡ true → new ≡ old ++ bytes)
    → (j ≡ false → new ≡ old) → new ≡ old
same_by true old new bytes e joined stands = joined refl ∙ rw e (append-nil old)
same_by false old new bytes e joined stands = stands refl

lone_by : (text : List ℕ) (p : ℕ) (old new : List ℕ) (u : Uri) (r : Result (List ℕ × ℕ) Wrong)
    → byte text p ≡ 33
    → ReadsUri text (p + 1) old new (Ok u) r → u.end ≡ p + 1
    → ReadsTag text p old new (Ok (record { handle = p; from = p; to = p + 1; joined = false; end = p + 1 })) (bare r)
lone_by text p old new u (Err w) mark is same = absurd is
lone_by text p old new u (Ok x) mark is same =
    let inside = within text p (omega arith) in
    let none = is.none same in
    let first : byte text p ∷ [] ≡ 33 ∷ [] = rw mark refl in
    rw none (record {
      handle = slice_none text p;
      joined = λ j. absurd (false≢true j);
      stands = λ j. (same_by u.joined old new x.0 none is.joined (λ k. (is.stands k).0), slice_one text p inside ∙ first);
      front = omega arith;
      within = omega arith;
      order = omega arith;
      last = omega arith;
      end = rw same at is.end;
      inside = omega arith;
      plain = one_plain text p (omega arith) (omega arith);
    })

pub lone_read : (text : List ℕ) (p : ℕ) (old new : List ℕ) (u : Uri) → byte text p ≡ 33
    → ReadsUri text (p + 1) old new (Ok u) (uri_at contexts.TagUri false text (p + 1)) → u.end ≡ p + 1
    → ReadsTag text p old new (Ok (record { handle = p; from = p; to = p + 1; joined = false; end = p + 1 })) (bare_at text p)
lone_read text p old new u mark is same = lone_by text p old new u (uri_at contexts.TagUri false text (p + 1)) mark is same
