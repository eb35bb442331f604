-- What an adapter's steps answer. An adapter is seen as its session, which keeps the fault that was answered.
use Rattle.std.specs.Prelude.{◌≡◌, ◌⊎◌, true, false, Option, Some, None, Result, Ok, Err}
use Rattle.yaml_scan.specs.declared.yaml_fault_t.{yaml_fault_t}
use Rattle.yaml_scan.specs.declared.yaml_mark_t.{yaml_mark_t}
use Rattle.yaml_scan.specs.scan_types.Tokens.{Token}
use Rattle.yaml_scan.specs.scan_types.Faults.{Fault, fault_of}
use Rattle.yaml_scan.specs.scan_history.Remaining.{Remaining}
use Rattle.yaml_scan.specs.Session.{View, Takes, Lends, Refuses, HoldsLittle, ended}
use Rattle.yaml_parse_model.specs.Source.{Answer}
use Rattle.yaml_round_content.specs.Adapted.{adapted, spells_text, tag_fault}

-- what is to come of it: what is of its session, up to the first tag that isn't UTF-8
abbrev pub remaining_of : View → Remaining
remaining_of v = adapted v.remaining

-- a token was taken, and its tag is UTF-8
pub record TakesText (old : View) (t : Token) (new : View) : Type 0 where
  pub takes : Takes old t new
  pub text : spells_text t.body ≡ true

-- The next token's tag isn't UTF-8: it isn't taken, and the fault is that of the tag. No fault was answered before; this one is
-- kept, and nothing comes after it.
pub record FindsOtherBytes (old : View) (f : Fault) (new : View) : Type 0 where
  pub token : Token
  pub looked : View
  pub lends : Lends old token looked
  pub bytes : spells_text token.body ≡ false
  pub told : f ≡ tag_fault token.start_mark
  pub once : old.answered ≡ None
  pub ends : new ≡ ended looked f

-- a look at the next token: its tag is UTF-8, or it isn't and the token is there
abbrev pub IsTag : Option yaml_mark_t → Token → Type 0
IsTag None t = spells_text t.body ≡ true
IsTag (Some m) t = (spells_text t.body ≡ false) × (m ≡ t.start_mark)

pub record Looked (old : View) (found : Option yaml_mark_t) (new : View) : Type 0 where
  pub token : Token
  pub lends : Lends old token new
  pub tag : IsTag found token

abbrev pub LooksAtTag : View → Result (Option yaml_mark_t) yaml_fault_t → View → Type 0
LooksAtTag old (Ok found) new = Looked old found new × HoldsLittle new
LooksAtTag old (Err f) new = Refuses old (fault_of f) new × HoldsLittle new

-- A refusal is the session's own, which keeps it, with what it says of out of memory; or it is the next token's tag's.
abbrev pub Stops : View → Fault → View → Type 0
Stops old f new = Refuses old f new ⊎ FindsOtherBytes old f new

-- A call is a step of the session: it reads what the next token needs, and out of memory is the session's own. After it few
-- lexemes wait. After a fault the empty token is given, and nothing changes.
abbrev pub IsStep : View → Answer → View → Type 0
IsStep old (Ok t) new = TakesText old t new × HoldsLittle new
IsStep old (Err f) new = Stops old f new × HoldsLittle new
