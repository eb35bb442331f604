-- What a look at a source's next token shows.
use Rattle.std.proofs.Common.{◌≡◌, Bool, true, false, List, ◌∷◌, Option, Some, None, refl, sym, ap, ◌∙◌}
use Rattle.std.proofs.lemmas.Bool.{false≢true}
use Rattle.yaml_scan_model.specs.declared.fault.yaml_fault_t.{yaml_fault_t}
use Rattle.yaml_scan_model.specs.scan_types.Tokens.{Token}
use Rattle.yaml_scan_model.specs.scan_types.Faults.{Fault}
use Rattle.yaml_parse_model.specs.Source.{front_of, GivesToken}
use Rattle.yaml_scan_model.specs.declared.kind.Kind.{Kind}
use Rattle.yaml_scan_model.specs.declared.kind.Kind.TheVariants as kind
use Rattle.yaml_scan_model.specs.Kinds.{IsOf, is_fault}
use Rattle.yaml_scan_model.specs.Shows.{Shows, ShowsToken}
use Rattle.yaml_parse_states.specs.SourceComing.{coming, fault_coming, Tells}

shows_token : (k : Kind) (old new : List Token) (f g : Option Fault) → is_fault k ≡ false
    → ShowsToken k old f new g → Shows k old f new g
shows_token kind.Failed old new f g e h = absurd (false≢true (sym e))
shows_token kind.BadTag old new f g e h = absurd (false≢true (sym e))
shows_token kind.BadPrefix old new f g e h = absurd (false≢true (sym e))
shows_token k old new f g e h = h

-- it was asked for
pub asked : (k : Kind) (fault : Option yaml_fault_t) (old : List Token) (f : Option Fault)
    (t : Token)
    (new : List Token) (g : Option Fault) → fault ≡ None → GivesToken old f t new g
    → IsOf k t.body → is_fault k ≡ false
    → Shows k old f (coming fault true t new) (fault_coming fault g)
asked k (Some x) old f t new g e h is n = cc
asked k None old f t new g e h is n = shows_token k old (t ∷ new) f g n (record {
  front = ap (λ z. z ∷ new) h.given ∙ ap (λ z. front_of old ∷ z) h.rest;
  same = h.same;
  may = h.may;
  next = record { same = refl; is = is };
})

-- it is held
pub held : (k : Kind) (fault : Option yaml_fault_t) (b : Bool) (t : Token) (ts : List Token)
    (f : Option Fault) → fault ≡ None → b ≡ true → IsOf k t.body → is_fault k ≡ false
    → Shows k (coming fault b t ts) (fault_coming fault f) (coming fault b t ts) (fault_coming fault f)
held k (Some x) b t ts f e h is n = cc
held k None false t ts f e h is n = absurd (false≢true h)
held k None true t ts f e h is n = shows_token k (t ∷ ts) (t ∷ ts) f f n (record {
  front = refl;
  same = refl;
  may = tt;
  next = record { same = refl; is = is };
})

pub tells : (fault : Option yaml_fault_t) (b c : Bool) → fault ≡ None → b ≡ true → c ≡ false
    → Tells fault b c
tells (Some x) b c e h n = cc
tells None b true e h n = absurd (false≢true (sym n))
tells None b false e h n = h
