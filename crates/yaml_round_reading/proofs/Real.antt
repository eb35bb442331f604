-- No event that a parser gives is the empty one.
use Rattle.std.proofs.Common.{◌≡◌, ℕ, List, [], ◌∷◌, Option, Some, None, Bool, true, false, refl}
use Rattle.std.specs.Prelude.{if◌then◌else◌, codes}
use Rattle.std.specs.Str.{bytes_eq}
use Rattle.yaml_parse.specs.declared.yaml_scalar_style_t.{yaml_scalar_style_t}
use Rattle.yaml_parse.specs.scan_types.Tokens.{Token}
use Rattle.yaml_parse.specs.scan_types.Faults.{Fault}
use Rattle.yaml_parse.specs.Events as event
use Rattle.yaml_parse.specs.parse_grammar.Items.{RawEventBody, Shape}
use Rattle.yaml_parse.specs.parse_grammar.Items as item
use Rattle.yaml_parse.specs.parse_grammar.States.{State}
use Rattle.yaml_parse.specs.Machine.{run}
use Rattle.yaml_parse.specs.Resolve.{Told, Directives, reading, scalar_event, node_event}
use Rattle.yaml_round_content.proofs.Throughout.{Outer, AllAre, Each, EventsAre, run_are, reading_is}
use Rattle.yaml_round_reading.specs.Reading.{AreReal, is_empty}

-- the item is no empty event
abbrev Speaks : RawEventBody → Type 0
Speaks (item.event e) = is_empty e ≡ false
Speaks _ = Unit {0}

-- Nothing that is given is empty.
real_rules : Outer (λ b. Unit {0}) (λ a. Unit {0}) (λ g. Unit {0}) Speaks (λ x. Unit {0})
real_rules = record {
  inner = record {
    unnamed = tt;
    untagged = tt;
    anchor = λ name h. tt;
    tag = λ handle suffix m h. tt;
    alias = λ name h. refl;
    scalar = λ a g v style h k t. tt;
    sequence = λ a g style h k. tt;
    mapping = λ a g style h k. tt;
    sequence_end = refl;
    mapping_end = refl;
    states = λ x h. tt;
    properties = λ w p h k. tt;
    held = λ w p h. (tt, tt);
  };
  empty = λ a g h k. tt;
  start = λ encoding. refl;
  end = refl;
  version = λ major minor. tt;
  handle = λ handle prefix h. tt;
  document = λ implicit. tt;
  document_end = λ implicit. refl;
  outer = λ x h. tt;
  none = tt;
}

each_any : (ts : List Token) → Each (λ b. Unit {0}) ts
each_any [] = tt
each_any (t ∷ ts) = (tt, each_any ts)

all_any : (s : List State) → AllAre (λ x. Unit {0}) s
all_any [] = tt
all_any (x ∷ s) = (tt, all_any s)

-- ---- resolved

scalar_if : (b : Bool) (anchor : Option (List ℕ)) (tag value : List ℕ) (style : yaml_scalar_style_t)
    → is_empty (if b then event.scalar anchor None value true false style else event.scalar anchor
    (Some tag) value false false style) ≡ false
scalar_if true anchor tag value style = refl
scalar_if false anchor tag value style = refl

scalar_real : (anchor tag : Option (List ℕ)) (value : List ℕ) (style : yaml_scalar_style_t)
    → is_empty (scalar_event anchor tag value style) ≡ false
scalar_real anchor None value style = refl
scalar_real anchor (Some tag) value style = scalar_if (bytes_eq tag (codes "!")) anchor tag value style

node_event_real : (anchor tag : Option (List ℕ)) (shape : Shape)
    → is_empty (node_event anchor tag shape) ≡ false
node_event_real anchor tag item.empty = refl
node_event_real anchor tag (item.scalar value style) = scalar_real anchor tag value style
node_event_real anchor tag (item.sequence style) = refl
node_event_real anchor tag (item.mapping style) = refl

all_real : (ts : List Told) → EventsAre (λ b. is_empty b ≡ false) ts → AreReal ts
all_real [] h = tt
all_real (t ∷ ts) h = (h.0, all_real ts h.1)

-- the events of every list of tokens
pub read_real : (ts : List Token) (s : List State) (f : Option Fault) (ds : Directives)
    → AreReal (reading (run ts s f).items (run ts s f).ending ds).events
read_real ts s f ds =
    all_real (reading (run ts s f).items (run ts s f).ending ds).events
    (reading_is Speaks (λ b. is_empty b ≡ false) (record { whole = λ b h. h; document = λ v tags implicit. refl; node = node_event_real }) (run ts s f).items (run ts s f).ending ds
    (run_are real_rules ts s f (each_any ts) (all_any s)))
