-- What nodes come to: the event that is given, or the fault that is reported.
use Rattle.std.proofs.Common.{◌≡◌, ◌⊎◌, inl, inr, ℕ, ◌≤◌, Bool, true, false, List, [], ◌∷◌, ◌++◌, reverse, length, Option, Some, None, refl, sym, ap, subst, ◌∙◌, arith}
use Rattle.yaml_parse_model.specs.declared.yaml_mark_t.{yaml_mark_t}
use Rattle.yaml_parse_model.specs.declared.yaml_origin_t.TheVariants.{Parser as ParserLayer}
use Rattle.yaml_parse_model.specs.scan_types.Tokens.{Token}
use Rattle.yaml_parse_model.specs.scan_types.Faults.{Fault, memory_fault}
use Rattle.yaml_parse_model.specs.Source.{front_of, rest_of, MayAnswer}
use Rattle.yaml_parse_model.specs.Events.{Event, EventBody}
use Rattle.yaml_parse_grammar.specs.declared.name.Wants.{Wants}
use Rattle.yaml_parse_grammar.specs.declared.name.Wants.TheVariants.{Block}
use Rattle.yaml_parse_grammar.specs.declared.name.Site.TheVariants.{IndentlessEntry}
use Rattle.yaml_parse_grammar.specs.declared.name.Side.{Side}
use Rattle.yaml_parse_grammar.specs.declared.problem.ParseProblem.{ParseProblem}
use Rattle.yaml_parse_grammar.specs.Items.{Properties, Shape, node_at}
use Rattle.yaml_parse_grammar.specs.Items as item
use Rattle.yaml_parse_grammar.specs.States as grammar
use Rattle.yaml_parse_grammar.specs.Machine.{content_taken, starts_content, taken}
use Rattle.yaml_parse_grammar.specs.Resolve.{node_event, placed}
use Rattle.yaml_parse_grammar.specs.Resolve as resolve
use Rattle.yaml_parse_grammar.specs.Remaining.{next_unasked}
use Rattle.yaml_scan_model.specs.declared.kind.Kind.{Kind}
use Rattle.yaml_scan_model.specs.declared.kind.Kind.TheVariants as kind
use Rattle.yaml_scan_model.specs.Kinds.{body_by, is_fault, type_by}
use Rattle.yaml_scan_model.specs.Shows.{Shows, ShowsToken, ShowsFault, left_behind}
use Rattle.yaml_scan_model.specs.Texts.{Texts}
use Rattle.yaml_scan_model.specs.declared.tokens.Tokens.{Ghosts}
use Rattle.yaml_parse_states.specs.declared.event.EventKind.{EventKind}
use Rattle.yaml_parse_states.specs.declared.event.EventKind.TheVariants as kind_
use Rattle.yaml_parse_states.specs.declared.event.Slot.{Slot}
use Rattle.yaml_parse_states.specs.declared.parser.Level.{Level}
use Rattle.yaml_parse_states.specs.declared.parser.Parser.{Parser}
use Rattle.yaml_parse_states.specs.declared.parser.State.{State}
use Rattle.yaml_parse_states.specs.declared.parser.State.TheVariants as state
use Rattle.yaml_parse_states.specs.declared.parser.Turn.{Turn}
use Rattle.yaml_parse_states.specs.declared.parser.Turn.TheVariants as turn
use Rattle.yaml_parse_states.specs.Coming.{Coming, ahead, stopped, read, read_node}
use Rattle.yaml_parse_states.specs.Views.{below, below_of, body_in, coming_of, directives_of, event_in, node_coming, opener, side_of, stack}
use Rattle.yaml_parse_states.specs.Turned.{AwaitsNode, IsRefused, IsTaken, Refuses, RefusesNext, Turned}
use Rattle.yaml_parse_states.specs.Nodes.{AreProperties, Collected, Collects, Found, IsBegun, IsShown, Loosely, OpensWith, TakesScalar, anchor_of, begun, collecting, collection_told, joins_in, node_told, scalar_shape, tag_of, wants_by}
use Rattle.yaml_parse_states.proofs.Fronts.{node_fails, shows_token, shows_fault, silent}
use Rattle.yaml_parse_states.proofs.Nodes.{alone_read, content_gives, node_settles}
use Rattle.yaml_parse_states.proofs.Ways.{states_in}
use Rattle.yaml_parse_states.proofs.Parts.{memory_told, no_answer, refused_fault, some_same, with_tokens}

-- ---- an event, or a fault

pub gave : {T P : Type 0} (g : Ghosts T P) (was rest : Coming) (r : Turn) (e : Event) (n : ℕ)
    (new : Parser T P) → r ≡ turn.Given → was ≡ ahead e n rest → event_in g new ≡ e
    → g.unasked new.tokens ≡ n → coming_of g new ≡ rest → Found g was r new
gave g was rest r e n new is w h u c =
    subst (λ z. Found g was z new) (sym is) (record {
      unasked = n;
      left = u;
      next = w ∙ ap (λ e. ahead e n rest) (sym h) ∙ ap (ahead (event_in g new) n) (sym c);
    })

pub lacks : {T P : Type 0} (g : Ghosts T P) (was : Coming) (r : Turn) (n : ℕ) (mid new : Parser T P)
    → r ≡ turn.Refused → Refuses g (memory_fault ParserLayer) mid new → g.unasked mid.tokens ≡ n
    → next_unasked was.events was.ending_unasked ≤ n → Found g was r new
lacks g was r n mid new is h u l =
    subst (λ z. Found g was z new) (sym is) (inr (record {
      fault = h.fault;
      told = h.told;
      over = h.over;
      unasked = n;
      left = h.unasked ∙ u;
      memory = h.is;
      asked = l;
    }))

pub refused_with : {T P : Type 0} (g : Ghosts T P) (was : Coming) (r : Turn) (f : Fault) (n : ℕ)
    (mid new : Parser T P) → r ≡ turn.Refused → Refuses g f mid new → g.unasked mid.tokens ≡ n
    → was ≡ stopped f n → Found g was r new
refused_with g was r f n mid new is h u w =
    subst (λ z. Found g was z new) (sym is) (inl (record {
      fault = h.fault;
      told = h.told;
      over = h.over;
      unasked = n;
      left = h.unasked ∙ u;
      reason = inr (w ∙ ap (λ f. stopped f n) (sym h.is));
    }))

pub found_refused : {T P : Type 0} (g : Ghosts T P) (was : Coming) (r : Turn) (new : Parser T P)
    → r ≡ turn.Refused → Turned g was r new → Found g was r new
found_refused g was r new e h = subst (λ z. Found g was z new) (sym e) (subst (λ z. Turned g was z new) e h)

pub is_refused : {T P : Type 0} (g : Ghosts T P) (was : Coming) (r : Turn) (new : Parser T P)
    → r ≡ turn.Refused → IsRefused g was new → Found g was r new
is_refused g was r new e h = subst (λ z. Found g was z new) (sym e) (inl h)

-- ---- what is to come after a token that was taken

pub coming_then : {T P : Type 0} (g : Ghosts T P) (old new : Parser T P)
    (s : List grammar.State) (ds : resolve.Directives) → IsTaken g old.tokens new.tokens
    → stack (g.mark_of new.tokens) new.state (reverse new.levels.items) ≡ s
    → directives_of new.directives ≡ ds
    → coming_of g new ≡ read (rest_of (g.to_come old.tokens)) (g.fault_to_come old.tokens) s ds
coming_then g old new s ds t h d =
    ap (λ ts. read ts (g.fault_to_come new.tokens) (states_in g new.state new) (directives_of new.directives)) t.rest
    ∙ ap (λ f. read (rest_of (g.to_come old.tokens)) f (states_in g new.state new) (directives_of new.directives)) t.fault
    ∙ ap (λ z. read (rest_of (g.to_come old.tokens)) (g.fault_to_come old.tokens) z (directives_of new.directives)) h
    ∙ ap (λ z. read (rest_of (g.to_come old.tokens)) (g.fault_to_come old.tokens) s z) d

pub taken_unasked : {T P : Type 0} (g : Ghosts T P) (old new : T) → IsTaken g old new
    → g.unasked new ≡ left_behind (g.to_come old)
taken_unasked g old new t = t.unasked ∙ ap length t.rest

-- ---- contents

-- where the event of a node is
node_placed : {T P : Type 0} (g : Ghosts T P) (q : Option Properties) (shape : Shape)
    (b : EventBody) (to : yaml_mark_t) (p : Parser T P) → IsBegun g q p
    → placed b (node_at q shape (front_of (g.to_come p.tokens)).start_mark to)
    ≡ record { body = b; start_mark = g.mark_of p.tokens p.event.start; end_mark = to }
node_placed g None shape b to p h = ap (λ m. record { body = b; start_mark = m; end_mark = to }) (sym h.start)
node_placed g (Some q) shape b to p h = ap (λ m. record { body = b; start_mark = m; end_mark = to }) (sym h.from)

-- it gives its event first
content_comes : {T P : Type 0} (g : Ghosts T P) (k : Kind) (w : Wants) (q : Option Properties)
    (shape : Shape) (above : List grammar.State) (p : Parser T P)
    → IsShown g k p.tokens → starts_content w (type_by k) ≡ true
    → content_taken w q (front_of (g.to_come p.tokens)).start_mark (front_of (g.to_come p.tokens)).end_mark
    (body_by k (front_of (g.to_come p.tokens)).body)
    ≡ taken (Some (node_at q shape (front_of (g.to_come p.tokens)).start_mark (front_of (g.to_come p.tokens)).end_mark)) above
    → IsBegun g q p → p.undefined ≡ None
    → begun g w q p
    ≡ ahead (node_told g shape (front_of (g.to_come p.tokens)).end_mark p) (left_behind (g.to_come p.tokens))
    (read (rest_of (g.to_come p.tokens)) (g.fault_to_come p.tokens) (above ++ states_in g p.state p) (directives_of p.directives))
content_comes g k w q shape above p shown starts t is n =
    let u : Token = front_of (g.to_come p.tokens) in
    content_gives k w q (node_at q shape u.start_mark u.end_mark) (node_event (anchor_of p) (tag_of p) shape) above (states_in g p.state p) (g.to_come p.tokens) (g.fault_to_come p.tokens) (directives_of p.directives) shown.next starts t
    (node_settles g q shape u.start_mark u.end_mark p is n)
    ∙ ap (λ e. ahead e (left_behind (g.to_come p.tokens)) (read (rest_of (g.to_come p.tokens)) (g.fault_to_come p.tokens) (above ++ states_in g p.state p) (directives_of p.directives)))
    (node_placed g q shape (node_event (anchor_of p) (tag_of p) shape) u.end_mark p is)

pub scalar_found : {T P : Type 0} (g : Ghosts T P) (w : Wants) (q : Option Properties) (r : Turn)
    (old new : Parser T P) → IsShown g kind.Scalar old.tokens → r ≡ turn.Given
    → TakesScalar g old new → IsBegun g q old → old.undefined ≡ None → Found g (begun g w q old) r new
scalar_found g w q r old new shown is t b n =
    let u : Token = front_of (g.to_come old.tokens) in
    gave g (begun g w q old) _ r _ (left_behind (g.to_come old.tokens)) new is
    (content_comes g kind.Scalar w q (scalar_shape u.body) [] old shown refl refl b n) t.event
    (taken_unasked g old.tokens new.tokens t.token)
    (coming_then g old new (states_in g old.state old) (directives_of old.directives) t.token
    (ap (λ p. stack (g.mark_of new.tokens) p.state (reverse p.levels.items)) t.same ∙ ap (λ at. stack at old.state (reverse old.levels.items)) t.token.places)
    (ap (λ p. directives_of p.directives) t.same))

-- memory ran out for the collection that begins
lacks_content : {T P : Type 0} (g : Ghosts T P) (k : Kind) (was rest : Coming) (e : Event)
    (r : Turn)
    (old new : Parser T P) → IsShown g k old.tokens → r ≡ turn.Refused
    → Refuses g (memory_fault ParserLayer) old new
    → was ≡ ahead e (left_behind (g.to_come old.tokens)) rest → Found g was r new
lacks_content g k was rest e r old new shown is h w =
    lacks g was r (left_behind (g.to_come old.tokens)) old new is h shown.unasked
    (let same : next_unasked was.events was.ending_unasked ≡ left_behind (g.to_come old.tokens) = ap (λ (c : Coming). next_unasked c.events c.ending_unasked) w in omega (arith, same))

pub collection_found : {T P : Type 0} (g : Ghosts T P) (k : Kind) (w : Wants)
    (q : Option Properties)
    (ek : EventKind) (flow : Bool) (first : State) (shape : Shape) (mk : yaml_mark_t → grammar.State)
    (r : Turn) (old new : Parser T P)
    → IsShown g k old.tokens → starts_content w (type_by k) ≡ true
    → ((t : Token) → content_taken w q t.start_mark t.end_mark (body_by k t.body)
    ≡ taken (Some (node_at q shape t.start_mark t.end_mark)) (mk t.start_mark ∷ []))
    → ((at : P → yaml_mark_t) (ls : List (Level P)) → stack at first ls ≡ mk (opener at ls) ∷ below at ls)
    → ((u : Texts) → body_in (collecting ek flow old) old.anchor.items old.tag.items u (directives_of old.directives)
    ≡ node_event (anchor_of old) (tag_of old) shape)
    → Collected g ek flow first old r new
    → IsBegun g q old → old.undefined ≡ None → Found g (begun g w q old) r new
collection_found g k w q ek flow first shape mk turn.Given old new shown starts t states body h b n =
    let u : Token = front_of (g.to_come old.tokens) in
    gave g (begun g w q old) _ turn.Given _ (left_behind (g.to_come old.tokens)) new refl
    (content_comes g k w q shape (mk u.start_mark ∷ []) old shown starts (t u) b n)
    (h.event ∙ ap (λ z. record { body = z; start_mark = g.mark_of old.tokens old.event.start; end_mark = u.end_mark }) (body (g.texts new.tokens)))
    (taken_unasked g old.tokens new.tokens h.token)
    (coming_then g old new (mk u.start_mark ∷ states_in g old.state old) (directives_of old.directives) h.token
    (ap (λ p. stack (g.mark_of new.tokens) p.state (reverse new.levels.items)) h.same
    ∙ states (g.mark_of new.tokens) (reverse new.levels.items)
    ∙ ap (λ m. mk m ∷ below_of g new) h.opens.start
    ∙ ap (λ s. mk u.start_mark ∷ s) h.opens.below)
    (ap (λ p. directives_of p.directives) h.same))
collection_found g k w q ek flow first shape mk turn.Refused old new shown starts t states body h b n =
    let u : Token = front_of (g.to_come old.tokens) in
    lacks_content g k (begun g w q old) _ _ turn.Refused old new shown refl h
    (content_comes g k w q shape (mk u.start_mark ∷ []) old shown starts (t u) b n)
collection_found g k w q ek flow first shape mk r old new shown starts t states body h b n = absurd h

-- its event, wherever its tokens are
event_told : {T P : Type 0} (g : Ghosts T P) (ek : EventKind) (flow : Bool) (first : State)
    (old mid : Parser T P) (t2 : T) → OpensWith g ek flow first old mid
    → g.mark_of t2 ≡ g.mark_of old.tokens
    → event_in g (record mid { tokens = t2 }) ≡ collection_told g ek flow old (record mid { tokens = t2 })
event_told g ek flow first old mid t2 h places =
    ap (λ (p : Parser _ _). record { body = body_in mid.event p.anchor.items p.tag.items (g.texts t2) (directives_of p.directives); start_mark = g.mark_of t2 mid.event.start; end_mark = g.mark_of t2 mid.event.end }) h.same
    ∙ ap (λ at. record { body = body_in mid.event old.anchor.items old.tag.items (g.texts t2) (directives_of old.directives); start_mark = at mid.event.start; end_mark = at mid.event.end }) places
    ∙ ap (λ m. record { body = body_in mid.event old.anchor.items old.tag.items (g.texts t2) (directives_of old.directives); start_mark = g.mark_of old.tokens mid.event.start; end_mark = m }) h.end
    ∙ ap (λ (e : Slot _). record { body = body_in e old.anchor.items old.tag.items (g.texts t2) (directives_of old.directives); start_mark = g.mark_of old.tokens e.start; end_mark = (front_of (g.to_come old.tokens)).end_mark }) h.slot

-- a collection opens, and then its token is taken
pub collects : {T P : Type 0} (g : Ghosts T P) (ek : EventKind) (flow : Bool) (first : State)
    (old mid : Parser T P) (t2 : T) → OpensWith g ek flow first old mid → IsTaken g mid.tokens t2
    → Collects g ek flow first old (record mid { tokens = t2 })
collects g ek flow first old mid t2 h t =
    let same : mid.tokens ≡ old.tokens = ap (λ (p : Parser _ _). p.tokens) h.same in
    let token : IsTaken g old.tokens t2 = subst (λ z. IsTaken g z t2) same t in
    record {
      same = ap (λ (p : Parser _ _). record p { tokens = t2 }) h.same;
      token = token;
      opens = record {
        start = ap (λ at. opener at (reverse mid.levels.items)) t.places ∙ h.opens.start;
        next = h.opens.next;
        below = ap (λ at. below at (reverse mid.levels.items)) t.places ∙ h.opens.below;
      };
      event = event_told g ek flow first old mid t2 h token.places;
    }

-- a sequence that isn't indented
pub loose_found : {T P : Type 0} (g : Ghosts T P) (q : Option Properties) (r : Turn)
    (old new : Parser T P) → IsShown g kind.BlockEntry old.tokens
    → Loosely g old r new → IsBegun g q old → old.undefined ≡ None
    → Found g (begun g (Block (Some (side_of old.state))) q old) r new
loose_found g q turn.Given old new shown h b n =
    let u : Token = front_of (g.to_come old.tokens) in
    let x : Side = side_of old.state in
    let ds : resolve.Directives = directives_of old.directives in
    let s : List grammar.State = states_in g old.state old in
    let comes = content_comes g kind.BlockEntry (Block (Some x)) q (item.sequence _) (grammar.optional (IndentlessEntry x) u.end_mark ∷ grammar.others x ∷ []) old shown refl refl b n in
    gave g (begun g (Block (Some x)) q old) _ turn.Given _ (left_behind (g.to_come old.tokens)) new refl
    comes (event_told g kind_.SequenceStart false state.IndentlessSequenceEntry old new new.tokens h (ap (λ (p : Parser _ _). g.mark_of p.tokens) h.same))
    (subst (λ (p : Parser _ _). g.unasked p.tokens ≡ left_behind (g.to_come old.tokens)) (sym h.same) shown.unasked)
    (ap (λ (p : Parser _ _). read (g.to_come p.tokens) (g.fault_to_come p.tokens) (stack (g.mark_of p.tokens) p.state (reverse new.levels.items)) (directives_of p.directives)) h.same
    ∙ ap (λ z. read (g.to_come old.tokens) (g.fault_to_come old.tokens) (grammar.others (side_of z) ∷ below (g.mark_of old.tokens) (reverse new.levels.items)) ds) h.opens.next
    ∙ ap (λ z. read (g.to_come old.tokens) (g.fault_to_come old.tokens) (grammar.others x ∷ z) ds) (ap (λ (p : Parser _ _). below (g.mark_of p.tokens) (reverse new.levels.items)) (sym h.same) ∙ h.opens.below)
    ∙ silent kind.BlockEntry (grammar.others x) (grammar.optional (IndentlessEntry x) u.end_mark ∷ grammar.others x ∷ []) s (g.to_come old.tokens) (g.fault_to_come old.tokens) ds shown.next refl refl)
loose_found g q turn.Refused old new shown h b n =
    let u : Token = front_of (g.to_come old.tokens) in
    let x : Side = side_of old.state in
    lacks_content g kind.BlockEntry (begun g (Block (Some x)) q old) _ _ turn.Refused old new shown refl h
    (content_comes g kind.BlockEntry (Block (Some x)) q (item.sequence _) (grammar.optional (IndentlessEntry x) u.end_mark ∷ grammar.others x ∷ []) old shown refl refl b n)
loose_found g q r old new shown h b n = absurd h

-- a node that has nothing but properties
pub empty_found : {T P : Type 0} (g : Ghosts T P) (k : Kind) (w : Wants) (q : Properties) (r : Turn)
    (old mid new : Parser T P) → IsShown g k old.tokens → joins_in k old.event ≡ false
    → starts_content w (type_by k) ≡ false → AreProperties g q old → old.undefined ≡ None
    → mid ≡ old → r ≡ turn.Given → new ≡ record mid { event = new.event }
    → event_in g new ≡ node_told g item.empty (g.mark_of mid.tokens mid.event.end) mid
    → Found g (begun g w (Some q) old) r new
empty_found g k w q r old mid new shown j h a n same is kept event =
    let kept' : new ≡ record old { event = new.event } = kept ∙ ap (λ (p : Parser _ _). record p { event = new.event }) same in
    gave g (begun g w (Some q) old) _ r _ (left_behind (g.to_come old.tokens)) new is
    (alone_read g k w q old shown j h a n)
    (event ∙ ap (λ (p : Parser _ _). node_told g item.empty (g.mark_of p.tokens p.event.end) p) same)
    (subst (λ (p : Parser _ _). g.unasked p.tokens ≡ left_behind (g.to_come old.tokens)) (sym kept') shown.unasked)
    (ap (coming_of g) kept')

-- ---- kinds that begin no content

pub block_starts : (k : Kind) (r : Turn) (x : State) → (k ≡ kind.BlockSequenceStart)
    ⊎ (k ≡ kind.BlockMappingStart)
    → (r ≡ turn.FlowNode → ⊥) → starts_content (wants_by r x) (type_by k) ≡ true
block_starts k turn.FlowNode x e n = absurd (n refl)
block_starts k turn.IndentlessNode x (inl e) n = ap (λ z. starts_content (Block (Some (side_of x))) (type_by z)) e
block_starts k turn.IndentlessNode x (inr e) n = ap (λ z. starts_content (Block (Some (side_of x))) (type_by z)) e
block_starts k r x (inl e) n = ap (λ z. starts_content (Block None) (type_by z)) e
block_starts k r x (inr e) n = ap (λ z. starts_content (Block None) (type_by z)) e

-- ---- a node that has to come, at the token that is looked at

node_front : (w : Wants) (ts : List Token) (f : Option Fault) (s : List grammar.State)
    (ds : resolve.Directives) → MayAnswer ts f
    → read_node w (front_of ts ∷ rest_of ts) f s ds ≡ read_node w ts f s ds
unfolding read_node
node_front w [] None s ds h = refl
node_front w [] (Some f) s ds h = cc
node_front w (t ∷ ts) f s ds h = refl

pub awaits_shown : {T P : Type 0} (g : Ghosts T P) (k : Kind) (w : Wants) (was : Coming)
    (old : Parser T P) (t1 : T) → AwaitsNode g w was old
    → Shows k (g.to_come old.tokens) (g.fault_to_come old.tokens) (g.to_come t1) (g.fault_to_come t1)
    → is_fault k ≡ false → g.mark_of t1 ≡ g.mark_of old.tokens
    → was ≡ node_coming g w (with_tokens old t1)
awaits_shown g k w was old t1 h shows e places =
    let token : ShowsToken k (g.to_come old.tokens) (g.fault_to_come old.tokens) (g.to_come t1) (g.fault_to_come t1) = shows_token k (g.to_come old.tokens) (g.to_come t1) (g.fault_to_come old.tokens) (g.fault_to_come t1) e shows in
    elim h [
      | inl z ↦ z
          ∙ sym (node_front w (g.to_come old.tokens) (g.fault_to_come old.tokens) (states_in g old.state old) (directives_of old.directives) token.may)
          ∙ ap (λ ts. read_node w ts (g.fault_to_come old.tokens) (states_in g old.state old) (directives_of old.directives)) (sym token.front)
          ∙ ap (λ f. read_node w (g.to_come t1) f (states_in g old.state old) (directives_of old.directives)) (sym token.same)
          ∙ ap (λ at. read_node w (g.to_come t1) (g.fault_to_come t1) (stack at old.state (reverse old.levels.items)) (directives_of old.directives)) (sym places)
      | inr l ↦ absurd (no_answer (g.to_come old.tokens) (g.fault_to_come old.tokens) l.told l.none l.ends token.may)
    ]

pub awaits_fails : {T P : Type 0} (g : Ghosts T P) (k : Kind) (w : Wants) (was : Coming)
    (p : ParseProblem) (old new : Parser T P) (t1 : T) → AwaitsNode g w was old
    → Shows k (g.to_come old.tokens) (g.fault_to_come old.tokens) (g.to_come t1) (g.fault_to_come t1)
    → is_fault k ≡ true → RefusesNext g p (with_tokens old t1) new → IsRefused g was new
awaits_fails g k w was p old new t1 h shows e next =
    let fails : ShowsFault (g.to_come old.tokens) (g.fault_to_come old.tokens) (g.to_come t1) (g.fault_to_come t1) = shows_fault k (g.to_come old.tokens) (g.to_come t1) (g.fault_to_come old.tokens) (g.fault_to_come t1) e shows in
    elim h [
      | inl z ↦ refused_fault g was (g.to_come old.tokens) (g.fault_to_come old.tokens) p (with_tokens old t1) new fails
          (λ f none some. z ∙ ap (λ ts. read_node w ts (g.fault_to_come old.tokens) (states_in g old.state old) (directives_of old.directives)) none
          ∙ ap (λ o. read_node w [] o (states_in g old.state old) (directives_of old.directives)) some
          ∙ node_fails w (states_in g old.state old) f (directives_of old.directives)) next
      | inr l ↦ memory_told g was l.told new l.memory (refused_fault g (stopped l.told 0) (g.to_come old.tokens) (g.fault_to_come old.tokens) p (with_tokens old t1) new fails
          (λ f none some. ap (λ z. stopped z 0) (some_same l.told f (sym l.ends ∙ some))) next)
    ]
