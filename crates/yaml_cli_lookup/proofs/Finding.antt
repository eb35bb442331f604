-- What a look-up answers of the document that was loaded.
use Rattle.std.proofs.Common.{◌≡◌, ◌∙◌, sym, subst, true, is_some, ℕ, List, Result, Ok, Err, IfOk, IfErr}
use Rattle.std.specs.Prelude.{Option, Vec}
use Rattle.std.specs.Global.{Global}
use Rattle.yaml_scan.specs.scan_types.Faults.{Fault}
use Rattle.yaml_parse.specs.Documents.{Document}
use Rattle.yaml_cli_lookup.specs.declared.error.LookupError.{LookupError}
use Rattle.yaml_cli_lookup.specs.declared.error.LookupError.TheVariants.{Unreadable, NotAMapping, OutOfMemory, CopyRefused}
use Rattle.yaml_cli_lookup.specs.Values.{value_of}
use Rattle.yaml_cli_lookup.specs.Lookup.{IsFirstMapping, IsDue, IsDueOf, IsValueFound, bytes_of}

-- a copy of the root's value is what is to be found
pub found : (First : Result Document Fault → Type 0) (key : List ℕ) (d : Document)
    (v : Option (List ℕ))
    (r : Result (Option (Vec ℕ Global)) LookupError)
    → IsFirstMapping First d → v ≡ value_of d key → IfOk r (λ copy. bytes_of copy ≡ v)
    → IfOk r (IsValueFound First key)
found First key d v (Ok copy) m e h = record { document = d; loaded = m; value = h ∙ e }
found First key d v (Err e') m e h = tt

-- a refused copy is one of a value
pub copy_due : (First : Result Document Fault → Type 0) (key : List ℕ) (d : Document)
    (v : Option (List ℕ))
    (r : Result (Option (Vec ℕ Global)) LookupError)
    → IsFirstMapping First d → v ≡ value_of d key
    → IfErr r (λ e. (e ≡ CopyRefused) × (is_some v ≡ true)) → IfErr r (IsDueOf First key)
copy_due First key d v (Ok copy) m e h = tt
copy_due First key d v (Err x) m e h =
    subst (λ (z : LookupError). IsDueOf First key z) (sym h.0) (d, m, subst (λ (o : Option (List ℕ)). is_some o ≡ true) e h.1)

-- the error of a load is one of a look-up
pub load_due : (First : Result Document Fault → Type 0) (key : List ℕ) (e : LookupError)
    → IsDue First e → IsDueOf First key e
load_due First key (Unreadable f) h = h
load_due First key NotAMapping h = h
load_due First key (OutOfMemory f) h = h
load_due First key CopyRefused h = absurd h
