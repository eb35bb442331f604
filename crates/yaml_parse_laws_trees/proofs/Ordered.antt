-- What the machine gives before a fault begins a sentence: a tree whose directives and tag handles are in order.
use Rattle.std.proofs.Common.{◌≡◌, ℕ, true, List, [], ◌∷◌, ◌++◌, Option, Some, None, refl, ap, sym, subst, ◌∙◌, append_assoc, append-nil, arith}
use Rattle.yaml_parse_laws_trees.proofs.Words.{yaml_mark_t, Token, TokenBody, no_token, zero_mark, Fault, Event, RawEvent, Wants, Shape, Tag, State, Stream, spell, Fed, stop, go, feed, Outcome, run, initial, Directives, no_directives, with_resolved, Reading, reading_of, told, bare, BeginsWithEvents, followed_by, is_directive, directive_fault, handle_fault, document_directives, directive, IsFree, BeginsWithSentence}
use Rattle.yaml_parse_laws_trees.specs.Sentences.{NoneLonger, RunBeginsSentence, events_of_tree}
use Rattle.yaml_parse_model.specs.scan_types.Tokens as token
use Rattle.yaml_parse_laws_trees.specs.parse_grammar.States as state
use Rattle.yaml_parse_laws_trees.proofs.CompleteStream.{stream_runs}
use Rattle.yaml_parse_laws_trees.proofs.Turns.{items_given}
use Rattle.yaml_parse_laws_trees.proofs.Left.{Over}
use Rattle.yaml_parse_laws_trees.proofs.Closing.{closers, Empty, all_close, StopBegins, feed_begins}
use Rattle.yaml_parse_laws_trees.proofs.Events.{events_begin}
use Rattle.yaml_parse_laws_trees.proofs.Refusal.{stopped_given, begins_same, end_begins}
use Rattle.yaml_parse_laws_trees.proofs.FaultsStanding.{property, last_in, told as told_by}
use Rattle.yaml_parse_laws_trees.proofs.Settling.{Done, bad, fine, read_all, then_read, Agree, by_fault}
use Rattle.yaml_parse_laws_trees.proofs.Properties.{tok, PropsOf, PropsTop, props_read}
use Rattle.yaml_parse_laws_trees.proofs.Stepping.{Dirs, StepRead}
use Rattle.yaml_parse_laws_trees.proofs.Tagging.{Step, no_ended, no_handle}
use Rattle.yaml_parse_laws_trees.proofs.Taking.{stack_solid, Stops, stops_at_none, ending_of}
use Rattle.yaml_parse_laws_trees.proofs.Clean.{no_fault, some_none}
use Rattle.yaml_parse_laws_trees.proofs.Ending.{At, at_start, runs_out, run_some, sentence_tree, found_token, stopped, taken_goes, taken_on, taken_at, finished_here, step_at, fault_ends}
use Rattle.yaml_parse_laws_trees.proofs.Meant.{meant, where_fine, go_meant, go_ends, HoldsLost, doomed}
use Rattle.yaml_parse_laws_trees.proofs.Calm.{closers_calm, Quiet, calm_quiet, quiet_meets, calm_free, IsTag, tag_waits, bare_quiet}
use Rattle.yaml_parse_laws_trees.proofs.Swapping.{bare_tag, SameItems, tag_fed, FirstMeant, directive_fed}

-- ---- sentences that go on

-- the tokens are those of a sentence
record Sentence (ts : List Token) : Type 0 where
  tree : Stream
  same : ts ≡ spell tree []
  free : IsFree (spell tree [])

sentence_of : (ts : List Token) → Over initial Empty ts
    → ((tree : Stream) → ts ≡ spell tree [] → IsFree ts) → Sentence ts
sentence_of ts h k =
    let e : (tree : Stream) × (ts ≡ spell tree []) = sentence_tree ts h in
    record { tree = e.0; same = e.1; free = subst IsFree e.1 (k e.0 e.1) }

-- what is open is closed
closed_here : (x : State) (s : List State) (past : List Token) (ds : Directives) (m : yaml_mark_t)
    → At x s past ds → Quiet past → Sentence (followed_by past (closers m (x ∷ s)))
closed_here x s past ds m a q =
    sentence_of (followed_by past (closers m (x ∷ s))) (a.goes (closers m (x ∷ s)) (all_close m (x ∷ s)))
    (λ tree p. calm_free (closers m (x ∷ s)) past (closers_calm m (x ∷ s)) q a.clean tree p)

-- the same after one token more, which is in order
closed_behind : (x : State) (s s' : List State) (past : List Token) (ds : Directives) (u : Token)
    (is : List RawEvent) → At x s past ds → Quiet past → feed (x ∷ s) u ≡ go is s'
    → directive_fault past u.body u.start_mark ≡ None → Quiet (u ∷ past)
    → Sentence (followed_by past (u ∷ closers zero_mark s'))
closed_behind x s s' past ds u is a q p d q' =
    sentence_of (followed_by past (u ∷ closers zero_mark s')) (taken_goes x s s' past ds u is a p (closers zero_mark s') (all_close zero_mark s'))
    (λ tree e. calm_free (closers zero_mark s') (u ∷ past) (closers_calm zero_mark s') q' (no_fault past u (quiet_meets past q u.body) (taken_on x s s' past ds u is a p) d, a.clean) tree e)

-- ---- a tag that waits whose handle nothing defines

none_lost : (past : List Token) (y : State) (e : Fault) → told_by y ≡ last_in past
    → (told_by y ≡ property → ⊥) → handle_fault past token.stream_end ≡ Some e → ⊥
none_lost past y e l n h = some_none _ e (no_handle past token.stream_end (no_ended past token.stream_end (λ k. n (l ∙ k)))) h

fine_bad : (ds : Directives) (e : Fault) → fine ds ≡ bad e → ⊥
fine_bad ds e h = cc

lost_by : (o a : Option (List ℕ)) (shape : Shape) (from at : yaml_mark_t) (ds : Directives)
    (e : Fault) → then_read (with_resolved o a shape from at ds) (λ d. fine d) ≡ bad e → o ≡ None
lost_by None a shape from at ds e h = refl
lost_by (Some tag) a shape from at ds e h = absurd (fine_bad ds e h)

lost_held : (w : Wants) (a : Option (List ℕ)) (o : Option Tag) (from to : yaml_mark_t)
    (past : List Token) (ds : Directives) (e : Fault) → PropsOf a o from past
    → Agree (document_directives past) ds → handle_fault past token.stream_end ≡ Some e
    → HoldsLost (state.with_properties w (record { anchor = a; tag = o; from = from; to = to })) ds
lost_held w a o from to past ds e k d h = grind (arith, some_none, lost_by, props_read, by_fault)

lost : (y : State) (s : List State) (past : List Token) (ds : Directives) (e : Fault)
    → told_by y ≡ last_in past → PropsTop (y ∷ s) past → Dirs (y ∷ s) past ds
    → handle_fault past token.stream_end ≡ Some e → HoldsLost y ds
lost (state.with_properties w p) s past ds e l k d h = lost_held w p.anchor p.tag p.from p.to past ds e k d h
lost y s past ds e l k d h = absurd (none_lost past y e l (λ q. cc) h)

-- ---- events that begin others

begins_by : (a b x y more : List Event) → a ≡ x → b ≡ y ++ more → BeginsWithEvents x y
    → BeginsWithEvents a b
begins_by a b x y more p q h = record {
  others = h.others ++ more;
  same = q
      ∙ ap (λ (z : List Event). z ++ more) h.same
      ∙ append_assoc x h.others more
      ∙ ap (λ (z : List Event). z ++ (h.others ++ more)) (sym p);
}

begins_on : (a b front x y : List Event) → a ≡ front ++ x → b ≡ front ++ y → BeginsWithEvents x y
    → BeginsWithEvents a b
begins_on a b front x y p q h = grind (arith, append_assoc)

-- ---- from a stack on

abbrev NoneAfter : List Token → List Token → List Token → Type 0
NoneAfter past front [] = Unit {0}
NoneAfter past front (t ∷ ts) = (us : List Token) → BeginsWithSentence (followed_by past (front ++ t ∷ us)) → ⊥

abbrev events_from : List Token → List State → Option Fault → Directives → List Event
events_from ts s f ds = told (reading_of (run ts s f) ds).events

-- the longest front with which a sentence goes on, of tokens after those that were read
record Front (x : State) (s : List State) (past : List Token) (ds : Directives) (ts : List Token) (f : Option Fault) : Type 0 where
  front : List Token
  behind : List Token
  list : ts ≡ front ++ behind
  closing : List Token
  sentence : Sentence (followed_by past (front ++ closing))
  none : NoneAfter past front behind
  begins : BeginsWithEvents (events_from ts (x ∷ s) f ds) (events_from (front ++ closing) (x ∷ s) None ds)

-- the grammar refuses the token
refused_here : (x : State) (s : List State) (past : List Token) (ds : Directives) (t : Token)
    (ts : List Token) (is : List RawEvent) (e : Fault) (f : Option Fault) → At x s past ds
    → Quiet past → feed (x ∷ s) t ≡ stop is e → Step past ds t None (stop is e)
    → Front x s past ds (t ∷ ts) f
refused_here x s past ds t ts is e f a q p r = record {
  front = [];
  behind = t ∷ ts;
  list = refl;
  closing = closers t.start_mark (x ∷ s);
  sentence = closed_here x s past ds t.start_mark a q;
  none = λ us b. (stopped x s past ds t is e None a p (quiet_meets past q t.body) r _ refl).no_sentence us b;
  begins = events_begin (run (t ∷ ts) (x ∷ s) f).items (run (closers t.start_mark (x ∷ s)) (x ∷ s) None).items _ _ ds
      (begins_same is (bare (run (t ∷ ts) (x ∷ s) f).items) (run (closers t.start_mark (x ∷ s)) (x ∷ s) None).items (sym (stopped_given (x ∷ s) t ts f is e p))
      (subst (StopBegins t.start_mark (x ∷ s)) p (feed_begins (x ∷ s) t a.stood)));
}

-- a directive that isn't in order
directive_is : (past : List Token) (b : TokenBody) (at : yaml_mark_t) (e : Fault)
    → directive_fault past b at ≡ Some e → is_directive b ≡ true
directive_is past b at e h = grind (arith, some_none)

bad_meant : (x : State) (s s' : List State) (t : Token) (ts : List Token) (f : Option Fault)
    (ds : Directives) (is : List RawEvent) (e : Fault) → feed (x ∷ s) t ≡ go is s'
    → read_all is ds ≡ bad e → events_from (t ∷ ts) (x ∷ s) f ds ≡ meant is ds
bad_meant x s s' t ts f ds is e p h =
    go_meant (x ∷ s) s' t ts f ds is p
    ∙ ap (λ (d : Done). meant is ds ++ where_fine d (λ d'. events_from ts s' f d')) h
    ∙ append-nil (meant is ds)

fine_meant : (s s' : List State) (t : Token) (ts : List Token) (f : Option Fault)
    (ds ds' : Directives) (is : List RawEvent) → feed s t ≡ go is s'
    → read_all is ds ≡ fine ds'
    → events_from (t ∷ ts) s f ds ≡ meant is ds ++ events_from ts s' f ds'
fine_meant s s' t ts f ds ds' is p h =
    go_meant s s' t ts f ds is p
    ∙ ap (λ (d : Done). meant is ds ++ where_fine d (λ d'. events_from ts s' f d')) h

directive_here : (x : State) (s s' : List State) (past : List Token) (ds : Directives) (t : Token)
    (ts : List Token) (is : List RawEvent) (e : Fault) (f : Option Fault) → At x s past ds
    → Quiet past → feed (x ∷ s) t ≡ go is s' → read_all is ds ≡ bad e
    → directive_fault past t.body t.start_mark ≡ Some e → Front x s past ds (t ∷ ts) f
directive_here x s s' past ds t ts is e f a q p h r =
    by_fed (feed (x ∷ s) u) refl (subst (λ (z : Fed). FirstMeant z (feed (x ∷ s) u)) p (directive_fed (x ∷ s) t.body t.start_mark t.end_mark (directive_is past t.body t.start_mark e r)))
  where
    u : Token
    u = tok token.document_start t.start_mark t.end_mark

    by_fed : (fed : Fed) → feed (x ∷ s) u ≡ fed → FirstMeant (go is s') fed → Front x s past ds (t ∷ ts) f
    by_fed (stop js g) k b = absurd b
    by_fed (go js z) k b = record {
      front = [];
      behind = t ∷ ts;
      list = refl;
      closing = u ∷ closers zero_mark z;
      sentence = closed_behind x s z past ds u js a q k refl (calm_quiet u past tt);
      none = λ us c. (found_token x s past ds t e (Some e) a (quiet_meets past q t.body) (directive (taken_on x s s' past ds t is a p) r) refl).no_sentence us c;
      begins = begins_by (events_from (t ∷ ts) (x ∷ s) f ds) (events_from (u ∷ closers zero_mark z) (x ∷ s) None ds) (meant is ds) (meant js ds) _ (bad_meant x s s' t ts f ds is e p h) (go_meant (x ∷ s) z u (closers zero_mark z) None ds js k) (b ds);
    }

-- what was read is known from the stack and the directives
abbrev Reads : List Token → State → List State → Directives → Type 0
Reads past x s ds = (us : List Token) (f : Option Fault) → (reading_of (run (followed_by past us) initial f) no_directives).ending ≡ (reading_of (run us (x ∷ s) f) ds).ending

reads_on : (x y : State) (s s' : List State) (past : List Token) (ds ds' : Directives) (t : Token)
    (is : List RawEvent) → feed (x ∷ s) t ≡ go is (y ∷ s') → read_all is ds ≡ fine ds'
    → Reads past x s ds → Reads (t ∷ past) y s' ds'
reads_on x y s s' past ds ds' t is p h r us f =
    r (t ∷ us) f
    ∙ go_ends (x ∷ s) (y ∷ s') t us f ds is p
    ∙ ap (λ (d : Done). ending_of d (λ d'. (reading_of (run us (y ∷ s') f) d').ending)) h

-- a tag whose handle nothing defines
same_meant : (is js : List RawEvent) (ds : Directives) → is ≡ js
    → BeginsWithEvents (meant is ds) (meant js ds)
same_meant is js ds p = record { others = []; same = ap (λ (z : List RawEvent). meant z ds) (sym p) ∙ sym (append-nil (meant is ds)) }

no_events : (r : Reading) → r.events ≡ [] → told r.events ≡ []
no_events r h = ap told h

doomed_meant : (x y : State) (s s' : List State) (t : Token) (ts : List Token) (f : Option Fault)
    (ds ds' : Directives) (is : List RawEvent) → feed (x ∷ s) t ≡ go is (y ∷ s')
    → read_all is ds ≡ fine ds' → HoldsLost y ds'
    → events_from (t ∷ ts) (x ∷ s) f ds ≡ meant is ds
doomed_meant x y s s' t ts f ds ds' is p h l =
    fine_meant (x ∷ s) (y ∷ s') t ts f ds ds' is p h
    ∙ ap (λ (z : List Event). meant is ds ++ z) (no_events (reading_of (run ts (y ∷ s') f) ds') (doomed y ts s' f ds' l).events)
    ∙ append-nil (meant is ds)

tag_here : (x y : State) (s s' : List State) (past : List Token) (ds ds' : Directives)
    (b : TokenBody) (start end : yaml_mark_t) (ts : List Token) (is : List RawEvent)
    (f : Option Fault) → IsTag b → At x s past ds → Quiet past → Reads past x s ds
    → feed (x ∷ s) (tok b start end) ≡ go is (y ∷ s') → read_all is ds ≡ fine ds'
    → HoldsLost y ds' → Front x s past ds (tok b start end ∷ ts) f
tag_here x y s s' past ds ds' (token.tag handle suffix) start end ts is f i a q r p h l =
    by_fed (feed (x ∷ s) (tok bare_tag start end)) refl (subst (λ (z : Fed). SameItems z (feed (x ∷ s) (tok bare_tag start end))) p (tag_fed (x ∷ s) handle suffix start end))
  where
    by_fed : (fed : Fed) → feed (x ∷ s) (tok bare_tag start end) ≡ fed → SameItems (go is (y ∷ s')) fed
        → Front x s past ds (tok (token.tag handle suffix) start end ∷ ts) f
    by_fed (stop js g) k b = absurd b
    by_fed (go js z) k b = record {
      front = [];
      behind = tok (token.tag handle suffix) start end ∷ ts;
      list = refl;
      closing = tok bare_tag start end ∷ closers zero_mark z;
      sentence = closed_behind x s z past ds (tok bare_tag start end) js a q k refl (bare_quiet past start end);
      none = λ us c. (doomed y us s' None ds' l).ending (sym (reads_on x y s s' past ds ds' (tok (token.tag handle suffix) start end) is p h r us None) ∙ fault_ends (followed_by past (tok (token.tag handle suffix) start end ∷ us)) None None c);
      begins = begins_by (events_from (tok (token.tag handle suffix) start end ∷ ts) (x ∷ s) f ds) (events_from (tok bare_tag start end ∷ closers zero_mark z) (x ∷ s) None ds) (meant is ds) (meant js ds) _ (doomed_meant x y s s' (tok (token.tag handle suffix) start end) ts f ds ds' is p h l) (go_meant (x ∷ s) z (tok bare_tag start end) (closers zero_mark z) None ds js k) (same_meant is js ds b);
    }
tag_here x y s s' past ds ds' _ start end ts is f i a q r p h l = absurd i

-- a token more
none_on : (t : Token) (past front behind : List Token) → NoneAfter (t ∷ past) front behind
    → NoneAfter past (t ∷ front) behind
none_on t past front behind h = grind arith

front_on : (x y : State) (s s' : List State) (past : List Token) (ds ds' : Directives) (t : Token)
    (ts : List Token) (is : List RawEvent) (f : Option Fault) → feed (x ∷ s) t ≡ go is (y ∷ s')
    → read_all is ds ≡ fine ds' → Front y s' (t ∷ past) ds' ts f → Front x s past ds (t ∷ ts) f
front_on x y s s' past ds ds' t ts is f p h r = record {
  front = t ∷ r.front;
  behind = r.behind;
  list = ap (λ (us : List Token). t ∷ us) r.list;
  closing = r.closing;
  sentence = r.sentence;
  none = none_on t past r.front r.behind r.none;
  begins = begins_on (events_from (t ∷ ts) (x ∷ s) f ds) (events_from (t ∷ (r.front ++ r.closing)) (x ∷ s) None ds) (meant is ds) _ _ (fine_meant (x ∷ s) (y ∷ s') t ts f ds ds' is p h) (fine_meant (x ∷ s) (y ∷ s') t (r.front ++ r.closing) None ds ds' is p h) r.begins;
}

waits_here : (x y : State) (s s' : List State) (past : List Token) (ds ds' : Directives) (t : Token)
    (ts : List Token) (is : List RawEvent) (f o : Option Fault) → At x s past ds → Quiet past
    → Reads past x s ds → feed (x ∷ s) t ≡ go is (y ∷ s') → read_all is ds ≡ fine ds'
    → At y s' (t ∷ past) ds' → handle_fault (t ∷ past) token.stream_end ≡ o
    → ((z : State) (w : List State) (d : Directives) → At z w (t ∷ past) d → Quiet (t ∷ past)
    → Reads (t ∷ past) z w d → Front z w (t ∷ past) d ts f) → Front x s past ds (t ∷ ts) f
waits_here x y s s' past ds ds' t ts is f None a q r p h b o k = front_on x y s s' past ds ds' t ts is f p h (k y s' ds' b o (reads_on x y s s' past ds ds' t is p h r))
waits_here x y s s' past ds ds' t ts is f (Some e) a q r p h b o k =
    tag_here x y s s' past ds ds' t.body t.start_mark t.end_mark ts is f (tag_waits t past e q o) a q r p h (lost y s' (t ∷ past) ds' e b.last b.props b.dirs o)

gone_here : (x : State) (s s' : List State) (past : List Token) (ds : Directives) (t : Token)
    (ts : List Token) (is : List RawEvent) (f : Option Fault) (d : Done) → At x s past ds
    → Quiet past → Reads past x s ds → (BeginsWithSentence (followed_by past (t ∷ ts)) → ⊥)
    → feed (x ∷ s) t ≡ go is s' → read_all is ds ≡ d → StepRead past t d s'
    → ((z : State) (w : List State) (d : Directives) → At z w (t ∷ past) d → Quiet (t ∷ past)
    → Reads (t ∷ past) z w d → Front z w (t ∷ past) d ts f) → Front x s past ds (t ∷ ts) f
gone_here x s s' past ds t ts is f (bad e) a q r n p h c k = directive_here x s s' past ds t ts is e f a q p h c
gone_here x s [] past ds t ts is f (fine ds') a q r n p h c k = absurd (n (finished_here x s past ds t ts is f a p (quiet_meets past q t.body) c.0))
gone_here x s (y ∷ s') past ds t ts is f (fine ds') a q r n p h c k =
    waits_here x y s s' past ds ds' t ts is f (handle_fault (t ∷ past) token.stream_end) a q r p h (taken_at x s y s' past ds ds' t is a p (quiet_meets past q t.body) c.0 c.1) refl k

stepped_here : (x : State) (s : List State) (past : List Token) (ds : Directives) (t : Token)
    (ts : List Token) (f : Option Fault) (fed : Fed) → At x s past ds → Quiet past
    → Reads past x s ds → (BeginsWithSentence (followed_by past (t ∷ ts)) → ⊥)
    → feed (x ∷ s) t ≡ fed → Step past ds t None fed
    → ((z : State) (w : List State) (d : Directives) → At z w (t ∷ past) d → Quiet (t ∷ past)
    → Reads (t ∷ past) z w d → Front z w (t ∷ past) d ts f) → Front x s past ds (t ∷ ts) f
stepped_here x s past ds t ts f (stop is e) a q r n p c k = refused_here x s past ds t ts is e f a q p c
stepped_here x s past ds t ts f (go is s') a q r n p c k = gone_here x s s' past ds t ts is f (read_all is ds) a q r n p refl c k

-- where the tokens end
no_more : (x : State) (s : List State) (fed : Fed) → feed (x ∷ s) no_token ≡ fed → Stops fed
    → (e : Fault) × ((run [] (x ∷ s) None).ending ≡ Some e)
no_more x s (stop is e) p h = (e, ap (λ (o : Outcome). o.ending) (runs_out (x ∷ s) (stop is e) p))
no_more x s (go is s') p h = absurd h

last_fault : (x : State) (s : List State) (past : List Token) (ds : Directives) (f : Option Fault)
    → At x s past ds → (e : Fault) × ((run [] (x ∷ s) f).ending ≡ Some e)
last_fault x s past ds (Some g) a = (g, run_some x s g)
last_fault x s past ds None a = no_more x s (feed (x ∷ s) no_token) refl (stops_at_none (x ∷ s) (stack_solid x s a.stack))

ended_here : (x : State) (s : List State) (past : List Token) (ds : Directives) (f : Option Fault)
    → At x s past ds → Quiet past → Front x s past ds [] f
ended_here x s past ds f a q =
    let e : (e : Fault) × ((run [] (x ∷ s) f).ending ≡ Some e) = last_fault x s past ds f a in
    record {
      front = [];
      behind = [];
      list = refl;
      closing = closers zero_mark (x ∷ s);
      sentence = closed_here x s past ds zero_mark a q;
      none = tt;
      begins = events_begin (run [] (x ∷ s) f).items (run (closers zero_mark (x ∷ s)) (x ∷ s) None).items _ _ ds (end_begins (x ∷ s) f e.0 a.stood e.1);
    }

walk : (ts past : List Token) (x : State) (s : List State) (ds : Directives) (f : Option Fault)
    → At x s past ds → Quiet past → Reads past x s ds
    → (BeginsWithSentence (followed_by past ts) → ⊥) → Front x s past ds ts f
walk [] past x s ds f a q r n = ended_here x s past ds f a q
walk (t ∷ ts) past x s ds f a q r n =
    stepped_here x s past ds t ts f (feed (x ∷ s) t) a q r n refl
    (subst (λ (h : Option Fault). Step past ds t h (feed (x ∷ s) t)) (quiet_meets past q t.body) (step_at x s past ds t a))
    (λ z w d b k c. walk ts (t ∷ past) z w d f b k c n)

-- ---- a list of tokens

longest : (front behind : List Token) → NoneAfter [] front behind → NoneLonger front behind
longest front behind h = grind (arith, append_assoc, append-nil)

tree_meant : (ts : List Token) (tree : Stream) → ts ≡ spell tree []
    → events_from ts initial None no_directives ≡ told (events_of_tree tree)
tree_meant ts tree p = grind (arith, stream_runs, items_given)

pub begins_sentence : RunBeginsSentence
begins_sentence ts own n =
    let r : Front state.stream [] [] no_directives ts own = walk ts [] state.stream [] no_directives own at_start refl (λ us f. refl) n in
    record {
      front = r.front;
      behind = r.behind;
      list = r.list;
      longest = longest r.front r.behind r.none;
      sentence = record { tree = r.sentence.tree; more = r.closing; same = r.sentence.same; free = r.sentence.free };
      begins = subst (λ (z : List Event). BeginsWithEvents (told (reading_of (run ts initial own) no_directives).events) z) (tree_meant (r.front ++ r.closing) r.sentence.tree r.sentence.same) r.begins;
    }
