-- A node after its properties, token by token.
use Rattle.std.proofs.Common.{◌≡◌, ◌⊎◌, ◌≤◌, true, false, [], ◌∷◌, reverse, Option, Some, None, refl, sym, ap, subst, ◌∙◌}
use Rattle.yaml_parse_model.specs.declared.yaml_origin_t.TheVariants.{Parser as ParserLayer}
use Rattle.yaml_parse_model.specs.scan_types.Faults.{memory_fault}
use Rattle.yaml_parse_model.specs.Source.{front_of, rest_of}
use Rattle.yaml_parse_model.specs.Events.{alias}
use Rattle.yaml_parse_grammar.specs.declared.name.Wants.{Wants}
use Rattle.yaml_parse_grammar.specs.declared.name.Wants.TheVariants.{Flow, Block}
use Rattle.yaml_parse_model.specs.declared.yaml_mark_t.{yaml_mark_t}
use Rattle.yaml_parse_grammar.specs.declared.problem.ParseProblem.{ParseProblem}
use Rattle.yaml_parse_grammar.specs.declared.problem.ParseProblem.TheVariants as problem
use Rattle.yaml_parse_grammar.specs.Items.{Properties, Tag}
use Rattle.yaml_parse_grammar.specs.States as grammar
use Rattle.yaml_parse_grammar.specs.Machine.{go, no_node, starts_content}
use Rattle.yaml_parse_grammar.specs.Problems.{parser_fault}
use Rattle.yaml_parse_grammar.specs.Trees.{event_at}
use Rattle.yaml_parse_grammar.specs.Remaining.{next_unasked}
use Rattle.yaml_scan_model.specs.declared.kind.Kind.{Kind}
use Rattle.yaml_scan_model.specs.declared.kind.Kind.TheVariants as kind
use Rattle.yaml_scan_model.specs.Kinds.{is_fault, type_by}
use Rattle.yaml_scan_model.specs.Shows.{IsNext, Shows, ShowsToken, left_behind}
use Rattle.yaml_scan_model.specs.Texts.{name_in}
use Rattle.yaml_scan_model.specs.declared.tokens.Tokens.{Ghosts}
use Rattle.yaml_parse_states.specs.declared.parser.Parser.{Parser}
use Rattle.yaml_parse_states.specs.declared.parser.Turn.{Turn}
use Rattle.yaml_parse_states.specs.declared.parser.Turn.TheVariants as turn
use Rattle.yaml_parse_states.specs.Coming.{Coming, stopped, read}
use Rattle.yaml_parse_states.specs.Views.{directives_of, node_coming, opener, stack, text_if}
use Rattle.yaml_parse_states.specs.Turned.{IsTaken, Refuses, RefusesNext, Turned, context_at, fault_at}
use Rattle.yaml_parse_states.specs.Standing.{StandsBehind}
use Rattle.yaml_parse_states.specs.Utf8.{IsUtf8Named}
use Rattle.yaml_parse_states.specs.Nodes.{AreProperties, Begins, Found, IsBegun, IsResolved, IsShown, IsTag, TakesAlias, TakesProperty, begun, joins_in, with_property}
use Rattle.yaml_parse_states.proofs.Reading.{fed_gives}
use Rattle.yaml_parse_states.proofs.Fronts.{node_by, shown_same, shows_token}
use Rattle.yaml_parse_states.proofs.Founds.{coming_then, found_refused, gave, is_refused, lacks, taken_unasked}
use Rattle.yaml_parse_states.proofs.Nodes.{none_starts}
use Rattle.yaml_parse_states.proofs.Parts.{failed_here, not_empty, with_tokens}
use Rattle.yaml_parse_states.proofs.Properties.{first_read, joins_are, none_yet, property_read}
use Rattle.yaml_parse_states.proofs.Ways.{states_in}
use Rattle.yaml_parse_states.proofs.Within.{next_asked}

-- what was to come is the rest of a node after some properties, which are the parser's
pub record Joined {T P : Type 0} (g : Ghosts T P) (w : Wants) (was : Coming) (now : Parser T P)
    : Type 0 where
  pub properties : Properties
  pub are : AreProperties g properties now
  pub same : was ≡ begun g w (Some properties) now

-- the same, whichever they were
abbrev pub Goes : {T P : Type 0} → Ghosts T P → Parser T P → Parser T P → Type 0
Goes g old now = (now.state ≡ old.state)
    × ((w : Wants) (q : Properties) → AreProperties g q old → Joined g w (begun g w (Some q) old) now)

-- and the states are as they did
pub record NamedSo {T P : Type 0} (g : Ghosts T P) (old now : Parser T P) : Type 0 where
  pub goes : Goes g old now
  pub stands : StandsBehind old → StandsBehind now
  pub utf8 : IsUtf8Named g old → IsUtf8Named g now

pub begins_joined : {T P : Type 0} (g : Ghosts T P) (old : Parser T P) → Goes g old old
begins_joined g old = (refl, λ w q a. record { properties = q; are = a; same = refl })

pub is_shown : {T P : Type 0} (g : Ghosts T P) (k : Kind) (t0 t1 : T)
    → Shows k (g.to_come t0) (g.fault_to_come t0) (g.to_come t1) (g.fault_to_come t1)
    → is_fault k ≡ false → g.tells t1 (is_fault k) → g.unasked t1 ≡ left_behind (g.to_come t1)
    → IsShown g k t1
is_shown g k t0 t1 shows e tells u = record {
  tells = subst (λ b. g.tells t1 b) e tells;
  next = (shows_token k (g.to_come t0) (g.to_come t1) (g.fault_to_come t0) (g.fault_to_come t1) e shows).next;
  unasked = u;
}

-- ---- the next token is looked at

resolved_moved : {T P : Type 0} (g : Ghosts T P) (t : Tag) (o : Option P) (now : Parser T P)
    (t1 : T)
    → g.mark_of t1 ≡ g.mark_of now.tokens → IsResolved g t o now → IsResolved g t o (with_tokens now t1)
resolved_moved g t None now t1 places h = h
resolved_moved g t (Some at) now t1 places h = (h.0, h.1 ∙ ap (λ f. f at) (sym places))

tag_moved : {T P : Type 0} (g : Ghosts T P) (t : Option Tag) (now : Parser T P) (t1 : T)
    → g.mark_of t1 ≡ g.mark_of now.tokens → IsTag g t now → IsTag g t (with_tokens now t1)
tag_moved g None now t1 places h = h
tag_moved g (Some t) now t1 places h = (h.0, resolved_moved g t now.undefined now t1 places h.1)

pub joined_shown : {T P : Type 0} (g : Ghosts T P) (k : Kind) (w : Wants) (was : Coming)
    (now : Parser T P) (t1 : T) → Joined g w was now
    → Shows k (g.to_come now.tokens) (g.fault_to_come now.tokens) (g.to_come t1) (g.fault_to_come t1)
    → is_fault k ≡ false → g.mark_of t1 ≡ g.mark_of now.tokens → Joined g w was (with_tokens now t1)
joined_shown g k w was now t1 j shows e places =
    let token : ShowsToken k (g.to_come now.tokens) (g.fault_to_come now.tokens) (g.to_come t1) (g.fault_to_come t1) = shows_token k (g.to_come now.tokens) (g.to_come t1) (g.fault_to_come now.tokens) (g.fault_to_come t1) e shows in
    record {
      properties = j.properties;
      are = record {
        from = ap (λ f. f now.event.start) places ∙ j.are.from;
        to = ap (λ f. f now.event.end) places ∙ j.are.to;
        anchor = j.are.anchor;
        tag = tag_moved g j.properties.tag now t1 places j.are.tag;
      };
      same = j.same
          ∙ shown_same k (g.to_come now.tokens) (g.to_come t1) (g.fault_to_come now.tokens) (g.fault_to_come t1) (grammar.with_properties w j.properties ∷ states_in g now.state now) (directives_of now.directives) token
          ∙ ap (λ at. read (g.to_come t1) (g.fault_to_come t1) (grammar.with_properties w j.properties ∷ stack at now.state (reverse now.levels.items)) (directives_of now.directives)) (sym places);
    }

pub named_fails : {T P : Type 0} (g : Ghosts T P) (k : Kind) (w : Wants) (was : Coming) (r : Turn)
    (now new : Parser T P) (t1 : T) → Joined g w was now
    → Shows k (g.to_come now.tokens) (g.fault_to_come now.tokens) (g.to_come t1) (g.fault_to_come t1)
    → is_fault k ≡ true → r ≡ turn.Refused → RefusesNext g problem.NoBlockNode (with_tokens now t1) new
    → Found g was r new
named_fails g k w was r now new t1 j shows e is next =
    found_refused g was r new is (subst (λ (z : Coming). Turned g z r new) (sym j.same)
    (failed_here g k t1 (grammar.with_properties w j.properties) (states_in g now.state now) problem.NoBlockNode r now new shows e is next))

-- ---- one more is taken

pub joined_taken : {T P : Type 0} (g : Ghosts T P) (k : Kind) (w : Wants) (was : Coming)
    (now new : Parser T P) → Joined g w was now → IsShown g k now.tokens
    → joins_in k now.event ≡ true → IsTaken g now.tokens new.tokens → TakesProperty g k now new
    → Joined g w was new
joined_taken g k w was now new j shown e t h =
    let q : Properties = with_property k (front_of (g.to_come now.tokens)) j.properties in
    record {
      properties = q;
      are = h.properties j.properties j.are;
      same = j.same
          ∙ property_read k w j.properties (states_in g now.state now) (g.to_come now.tokens) (g.fault_to_come now.tokens) (directives_of now.directives) shown.next (joins_are g j.properties now k j.are ∙ e)
          ∙ ap (λ ts. read ts (g.fault_to_come now.tokens) (grammar.with_properties w q ∷ states_in g now.state now) (directives_of now.directives)) (sym t.rest)
          ∙ ap (λ f. read (g.to_come new.tokens) f (grammar.with_properties w q ∷ states_in g now.state now) (directives_of now.directives)) (sym t.fault)
          ∙ ap (λ at. read (g.to_come new.tokens) (g.fault_to_come new.tokens) (grammar.with_properties w q ∷ stack at now.state (reverse now.levels.items)) (directives_of now.directives)) (sym t.places)
          ∙ ap (λ (p : Parser _ _). read (g.to_come new.tokens) (g.fault_to_come new.tokens) (grammar.with_properties w q ∷ stack (g.mark_of new.tokens) p.state (reverse p.levels.items)) (directives_of p.directives)) (sym h.same);
    }

pub goes_on : {T P : Type 0} (g : Ghosts T P) (k : Kind) (old now mid new : Parser T P)
    → Goes g old now → ((w : Wants) (was : Coming) → Joined g w was now → Joined g w was mid)
    → mid.state ≡ now.state → IsShown g k mid.tokens → joins_in k mid.event ≡ true
    → IsTaken g mid.tokens new.tokens → TakesProperty g k mid new → Goes g old new
goes_on g k old now mid new h look same shown e t p = (
  ap (λ (z : Parser _ _). z.state) p.same ∙ same ∙ h.0,
  λ w q a. joined_taken g k w (begun g w (Some q) old) mid new (look w (begun g w (Some q) old) (h.1 w q a)) shown e t p,
)

pub named_lacks : {T P : Type 0} (g : Ghosts T P) (k : Kind) (w : Wants) (was : Coming) (r : Turn)
    (now mid new : Parser T P) → Joined g w was now → IsShown g k now.tokens
    → IsTaken g now.tokens mid.tokens → r ≡ turn.Refused → Refuses g (memory_fault ParserLayer) mid new
    → Found g was r new
named_lacks g k w was r now mid new j shown t is h =
    lacks g was r (left_behind (g.to_come now.tokens)) mid new is h (taken_unasked g now.tokens mid.tokens t)
    (subst (λ (z : Coming). next_unasked z.events z.ending_unasked ≤ left_behind (g.to_come now.tokens)) (sym j.same)
    (next_asked k (g.to_come now.tokens) (g.fault_to_come now.tokens) (grammar.with_properties w j.properties ∷ states_in g now.state now) (directives_of now.directives) shown.next))

-- ---- a node's first token

pub alias_found : {T P : Type 0} (g : Ghosts T P) (w : Wants) (was : Coming) (r : Turn)
    (old new : Parser T P) → was ≡ node_coming g w old → IsNext kind.Alias (g.to_come old.tokens)
    → r ≡ turn.Given → TakesAlias g old new → Found g was r new
alias_found g w was r old new h n is t =
    let u = front_of (g.to_come old.tokens) in
    let i = event_at (alias (name_in u.body)) u.start_mark u.end_mark in
    let s = states_in g old.state old in
    gave g was (read (rest_of (g.to_come old.tokens)) (g.fault_to_come old.tokens) s (directives_of old.directives)) r _ (left_behind (g.to_come old.tokens)) new is
    (h ∙ node_by kind.Alias w s (g.to_come old.tokens) (g.fault_to_come old.tokens) (directives_of old.directives) (go (i ∷ []) s) n refl
    ∙ fed_gives i s (rest_of (g.to_come old.tokens)) (g.fault_to_come old.tokens) (directives_of old.directives) (directives_of old.directives) (alias (name_in u.body)) refl)
    t.event
    (taken_unasked g old.tokens new.tokens t.token)
    (coming_then g old new s (directives_of old.directives) t.token
    (ap (λ (p : Parser _ _). stack (g.mark_of new.tokens) p.state (reverse p.levels.items)) t.same ∙ ap (λ at. stack at old.state (reverse old.levels.items)) t.token.places)
    (ap (λ (p : Parser _ _). directives_of p.directives) t.same))

-- it begins
pub begins_none : {T P : Type 0} (g : Ghosts T P) (old new : Parser T P) → Begins g old new
    → AreProperties g (none_yet (front_of (g.to_come old.tokens)).start_mark) new
begins_none g old new b = record {
  from = ap (λ (p : Parser _ _). g.mark_of p.tokens new.event.start) b.same ∙ b.start;
  to = ap (λ (p : Parser _ _). g.mark_of p.tokens new.event.end) b.same ∙ b.end;
  anchor = sym (ap (λ z. text_if z new.anchor.items) b.anchor);
  tag = (b.tag, ap (λ (p : Parser _ _). p.undefined) b.same);
}

pub begins_bare : {T P : Type 0} (g : Ghosts T P) (old new : Parser T P) → Begins g old new
    → IsBegun g None new
begins_bare g old new b = record {
  start = ap (λ (p : Parser _ _). g.mark_of p.tokens new.event.start) b.same ∙ b.start ∙ ap (λ (p : Parser _ _). (front_of (g.to_come p.tokens)).start_mark) (sym b.same);
  anchor = b.anchor;
  tag = b.tag;
}

pub begun_coming : {T P : Type 0} (g : Ghosts T P) (w : Wants) (old new : Parser T P)
    → Begins g old new
    → begun g w None new ≡ node_coming g w old
begun_coming g w old new b = ap (begun g w None) b.same

pub begun_named : {T P : Type 0} (g : Ghosts T P) (k : Kind) (w : Wants) (old new : Parser T P)
    → Begins g old new → IsNext k (g.to_come old.tokens) → (k ≡ kind.Anchor) ⊎ (k ≡ kind.Tag)
    → node_coming g w old
    ≡ begun g w (Some (none_yet (front_of (g.to_come old.tokens)).start_mark)) new
begun_named g k w old new b n e =
    first_read k w (states_in g old.state old) (g.to_come old.tokens) (g.fault_to_come old.tokens) (directives_of old.directives) n e
    ∙ ap (begun g w (Some (none_yet (front_of (g.to_come old.tokens)).start_mark))) (sym b.same)

-- none begins
no_context : (w : Wants) (o m : yaml_mark_t) → context_at (no_node w) o m ≡ m
no_context Flow o m = refl
no_context (Block s) o m = refl

pub refused_none : {T P : Type 0} (g : Ghosts T P) (k : Kind) (w : Wants) (was : Coming) (r : Turn)
    (p : ParseProblem) (old mid new : Parser T P) → was ≡ node_coming g w old
    → IsShown g k old.tokens → starts_content w (type_by k) ≡ false
    → (k ≡ kind.Alias → ⊥) → (k ≡ kind.Anchor → ⊥) → (k ≡ kind.Tag → ⊥)
    → p ≡ no_node w → mid.tokens ≡ old.tokens → r ≡ turn.Refused → RefusesNext g p mid new
    → Found g was r new
refused_none g k w was r p old mid new h shown s a b c e same is next =
    is_refused g was r new is (next was
    (λ f none some. absurd (not_empty (g.to_come old.tokens) (front_of (g.to_come old.tokens)) (rest_of (g.to_come old.tokens)) shown.next.same (ap g.to_come (sym same) ∙ none)))
    (λ l may l_is. h
    ∙ none_starts k w (states_in g old.state old) (g.to_come old.tokens) (g.fault_to_come old.tokens) (directives_of old.directives) shown.next s a b c
    ∙ ap (λ z. stopped (parser_fault (no_node w) (front_of (g.to_come z)).start_mark (front_of (g.to_come z)).start_mark) (left_behind (g.to_come z))) (sym same)
    ∙ ap (λ m. stopped (parser_fault (no_node w) (front_of (g.to_come mid.tokens)).start_mark m) (left_behind (g.to_come mid.tokens))) (sym (no_context w (opener (g.mark_of mid.tokens) (reverse mid.levels.items)) (front_of (g.to_come mid.tokens)).start_mark))
    ∙ ap (λ z. stopped (fault_at g z mid) (left_behind (g.to_come mid.tokens))) (sym e)))
