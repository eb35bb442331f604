-- What is reported where nothing more is given.
use Rattle.std.proofs.Common.{◌≡◌, List, [], Some, refl, sym, ap, subst}
use Rattle.yaml_parse_model.specs.scan_types.Tokens.{Token}
use Rattle.yaml_parse_model.specs.scan_types.Faults.{Fault}
use Rattle.yaml_scan_model.specs.Shows.{left_behind}
use Rattle.yaml_scan_model.specs.declared.tokens.Tokens.{Ghosts}
use Rattle.yaml_parse_states.specs.declared.parser.Parser.{Parser}
use Rattle.yaml_parse_states.specs.declared.parser.State.TheVariants as state
use Rattle.yaml_parse_states.specs.declared.parser.Refusal.{Refusal}
use Rattle.yaml_parse_states.specs.Turned.{Keeps, Means, Refuses}

-- the refusal means that fault
keeps : {T P : Type 0} (g : Ghosts T P) (r : Refusal) (f : Fault) (old new : Parser T P)
    → new ≡ record old { state = state.End; refusal = Some r } → Means g old.tokens r f → Keeps g f new
keeps g r f old new same h = record {
  refusal = r;
  kept = ap (λ (p : Parser _ _). p.refusal) same;
  means = subst (λ (p : Parser _ _). Means g p.tokens r f) (sym same) h;
}

pub refuses_by : {T P : Type 0} (g : Ghosts T P) (r : Refusal) (f : Fault) (old new : Parser T P)
    → new ≡ record old { state = state.End; refusal = Some r } → Means g old.tokens r f
    → Refuses g f old new
refuses_by g r f old new same h = record {
  fault = f;
  told = keeps g r f old new same h;
  is = refl;
  over = ap (λ (p : Parser _ _). p.state) same;
  unasked = ap (λ (p : Parser _ _). g.unasked p.tokens) same;
}

none_behind : (ts : List Token) → ts ≡ [] → left_behind ts ≡ 0
none_behind ts e = ap left_behind e
