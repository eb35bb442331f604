-- The machine ends in the fault of the list.
use Rattle.std.proofs.Common.{◌≡◌, ◌-◌, ◌+◌, inl, inr, ℕ, suc, List, [], ◌∷◌, ◌++◌, length, Option, Some, None, refl, ap, sym, subst, ◌∙◌, arith}
use Rattle.yaml_parse_laws_trees.proofs.Words.{Token, no_token, zero_mark, Fault, RawEvent, State, IsStack, Stream, spell, Fed, stop, go, feed, Outcome, finished, carry, run, initial, left_where_stopped, unasked_at_stop, Directives, no_directives, reading, unasked_at_fault, reading_of, GoesOn, followed_by, opened, grammar_fault, directive_fault, handle_fault, of_handle, of_token, WrongToken, grammar, directive, StandsIn, BeginsWithSentence, with_end, FaultOfTokens, unasked_of, IsToldWith, EndsInFault, FaultEnds, FaultIsToldAtPlace}
use Rattle.yaml_parse_laws_trees.specs.parse_grammar.States as state
use Rattle.yaml_parse_laws_trees.proofs.CompleteStream.{stream_runs, nothing_runs}
use Rattle.yaml_parse_laws_trees.proofs.Left.{Over}
use Rattle.yaml_parse_laws_trees.proofs.SoundStanding.{AllStood, FedStood, feed_stood}
use Rattle.yaml_parse_laws_trees.proofs.Closing.{closers, Empty, all_close}
use Rattle.yaml_parse_laws_trees.proofs.FaultsUnique.{one_fault}
use Rattle.yaml_parse_laws_trees.proofs.Cuts.{followed_on, followed_length}
use Rattle.yaml_parse_laws_trees.proofs.FaultsStanding.{Sign, signs_of, signs_behind, signs_on, open_in, last_in, told, Plain, Nested, told_fault, grammar_told}
use Rattle.yaml_parse_laws_trees.proofs.Refusing.{top_stops}
use Rattle.yaml_parse_laws_trees.proofs.Settling.{Done, bad, fine, read_all, none_agree}
use Rattle.yaml_parse_laws_trees.proofs.Properties.{PropsTop}
use Rattle.yaml_parse_laws_trees.proofs.Stepping.{Dirs, StepRead, IsFine}
use Rattle.yaml_parse_laws_trees.proofs.StacksBehind.{Stacked, FedKept, fed_kept, FedProps, fed_props}
use Rattle.yaml_parse_laws_trees.proofs.Tagging.{Step, step_read}
use Rattle.yaml_parse_laws_trees.proofs.Taking.{stack_solid, Takes, takes, Stops, stops_at_none, ending_of, front_read, last_read, number_of, front_number, last_number}
use Rattle.yaml_parse_laws_trees.proofs.Clean.{Clean, Unfinished, FirstAt, no_fault, free, handle_first, token_first, no_sentence, no_whole_sentence}
use Rattle.yaml_parse_laws_trees.proofs.Refusal.{not_none}

-- what the stack and the directives are after the tokens that were read
pub record At (x : State) (s : List State) (past : List Token) (ds : Directives) : Type 0 where
  pub signs : open_in (x ∷ s) ≡ signs_of (opened past)
  pub last : told x ≡ last_in past
  pub plain : Plain s
  pub nested : Nested (x ∷ s)
  pub stack : IsStack (x ∷ s)
  pub stood : AllStood (x ∷ s)
  pub dirs : Dirs (x ∷ s) past ds
  pub props : PropsTop (x ∷ s) past
  pub reached : (us : List Token) (f : Option Fault)
      → (run (followed_by past us) initial f).ending ≡ (run us (x ∷ s) f).ending
  pub goes : (us : List Token) → Over (x ∷ s) Empty us → Over initial Empty (followed_by past us)
  pub clean : Clean past
  pub unfinished : Unfinished past

-- ---- a step of the machine

pub runs_fed : (s : List State) (t : Token) (ts : List Token) (f : Option Fault) (fed : Fed)
    → feed s t ≡ fed → run (t ∷ ts) s f ≡ carry (length ts) fed (λ s'. run ts s' f)
unfolding run
runs_fed s t ts f fed p = ap (λ (d : Fed). carry (length ts) d (λ s'. run ts s' f)) p

pub runs_out : (s : List State) (fed : Fed) → feed s no_token ≡ fed
    → run [] s None ≡ carry 0 fed (λ _. finished)
unfolding run
runs_out s fed p = ap (λ (d : Fed). carry 0 d (λ _. finished)) p

read_go : (is : List RawEvent) (s : List State) (left : ℕ) (k : List State → Outcome)
    (ds : Directives)
    → (reading_of (carry left (go is s) k) ds).ending
    ≡ ending_of (read_all is ds) (λ d. (reading_of (k s) d).ending)
read_go is s left k ds = front_read is left (k s).items (k s).ending ds

-- ---- how many tokens are not asked for

abbrev fed_number : List Token → Option Fault → Directives → Fed → ℕ
fed_number ts f ds fed = unasked_at_fault (carry (length ts) fed (λ s'. run ts s' f)).items (left_where_stopped (length ts) fed (λ s'. unasked_at_stop ts s')) ds

go_number : (is : List RawEvent) (s : List State) (ts : List Token) (f : Option Fault)
    (ds : Directives)
    → fed_number ts f ds (go is s) ≡ number_of (read_all is ds) (length ts)
    (λ d. unasked_of ts f s d)
go_number is s ts f ds = front_number is (length ts) (run ts s f).items (unasked_at_stop ts s) ds

-- a list's ending, with that many tokens that are not asked for
abbrev Told : List Token → Option Fault → Option Fault → ℕ → Type 0
Told ts f None n = Unit {0}
Told ts f (Some e) n = IsToldWith ts f e n

record Ends (ts : List Token) (f ending : Option Fault) (n : ℕ) : Type 0 where
  fault : FaultOfTokens ts f ending
  told : Told ts f ending n

ends_same : (ts : List Token) (f o o' : Option Fault) (n n' : ℕ) → o' ≡ o → n' ≡ n → Ends ts f o n
    → Ends ts f o' n'
ends_same ts f o o' n n' p q h = rw (p, q) h

-- ---- what is known at a token

pub sentence_tree : (ts : List Token) → Over initial Empty ts
    → (tree : Stream) × (ts ≡ spell tree [])
sentence_tree ts h = (h.tree, h.same ∙ ap (spell h.tree) h.goes)

goes_on : (past : List Token) (t : Token) (us : List Token)
    → Over initial Empty (followed_by past (t ∷ us)) → GoesOn (followed_by past (t ∷ []))
goes_on past t us h = record { tree = h.tree; more = us; same = followed_on past (t ∷ []) us ∙ h.same ∙ ap (spell h.tree) h.goes }

-- no tree goes on with a token that is refused
refused_token : (x : State) (s : List State) (past : List Token) (ds : Directives) (t : Token)
    (is : List RawEvent) (e : Fault) → At x s past ds → feed (x ∷ s) t ≡ stop is e
    → GoesOn (followed_by past (t ∷ [])) → ⊥
refused_token x s past ds t is e a p g =
    let same : followed_by past (t ∷ g.more) ≡ spell g.tree [] = sym (followed_on past (t ∷ []) g.more) ∙ g.same in
    not_none e
    (sym (a.reached (t ∷ g.more) None ∙ ap (λ (o : Outcome). o.ending) (runs_fed (x ∷ s) t g.more None (stop is e) p))
    ∙ ap (λ (us : List Token). (run us initial None).ending) same
    ∙ ap (λ (o : Outcome). o.ending) (stream_runs g.tree [] None))

refused_told : (x : State) (s : List State) (past : List Token) (ds : Directives) (t : Token)
    (is : List RawEvent) (e : Fault) → At x s past ds → feed (x ∷ s) t ≡ stop is e
    → e ≡ grammar_fault past t.start_mark
refused_told x s past ds t is e a p = grind (arith, told_fault, top_stops, grammar_told)

-- ---- a fault at a token

pub record Found (past : List Token) (t : Token) (o : Option Fault) : Type 0 where
  pub told : Fault
  pub same : o ≡ Some told
  pub first : (ts : List Token) → FirstAt (followed_by past (t ∷ ts)) (length past) told
  pub no_sentence : (ts : List Token) → BeginsWithSentence (followed_by past (t ∷ ts)) → ⊥

pub found_handle : (x : State) (s : List State) (past : List Token) (ds : Directives) (t : Token)
    (e : Fault) (o : Option Fault) → At x s past ds → handle_fault past t.body ≡ Some e → o ≡ Some e
    → Found past t o
found_handle x s past ds t e o a h p = record { told = e; same = p; first = λ ts. handle_first past t ts e a.clean h; no_sentence = λ ts. no_sentence past t ts of_handle e a.unfinished h }

pub found_token : (x : State) (s : List State) (past : List Token) (ds : Directives) (t : Token)
    (e : Fault) (o : Option Fault) → At x s past ds → handle_fault past t.body ≡ None
    → WrongToken past t e → o ≡ Some e → Found past t o
found_token x s past ds t e o a h w p = record { told = e; same = p; first = λ ts. token_first past t ts e a.clean h w; no_sentence = λ ts. no_sentence past t ts of_token e a.unfinished w }

-- a token that is refused
stopped_fine : (d : Done) (e : Fault) → IsFine d → ending_of d (λ ds. Some e) ≡ Some e
stopped_fine d e h = grind arith

pub stopped : (x : State) (s : List State) (past : List Token) (ds : Directives) (t : Token)
    (is : List RawEvent) (e : Fault) (f : Option Fault) → At x s past ds
    → feed (x ∷ s) t ≡ stop is e
    → handle_fault past t.body ≡ f → Step past ds t f (stop is e) → (o : Option Fault)
    → o ≡ ending_of (read_all is ds) (λ d. Some e) → Found past t o
stopped x s past ds t is e (Some g) a p h k o q = found_handle x s past ds t g o a h (q ∙ ap (λ (d : Done). ending_of d (λ z. Some e)) k)
stopped x s past ds t is e None a p h k o q =
    found_token x s past ds t e o a h (grammar (refused_token x s past ds t is e a p) (refused_told x s past ds t is e a p)) (q ∙ stopped_fine (read_all is ds) e k)

-- the list's fault where one is found in it
pub found_first : (past : List Token) (t : Token) (ts : List Token) (f o : Option Fault)
    (d : Found past t o) → FirstAt (with_end f (followed_by past (t ∷ ts))) (length past) d.told
found_first past t ts None o d = subst (λ (us : List Token). FirstAt us (length past) d.told) (sym (followed_on past (t ∷ ts) (no_token ∷ []))) (d.first (ts ++ no_token ∷ []))
found_first past t ts (Some g) o d = d.first ts

behind_place : (past : List Token) (t : Token) (ts : List Token) (n : ℕ) → n ≡ length past
    → length ts ≡ length (followed_by past (t ∷ ts)) - suc n
behind_place past t ts n p = let q : length (followed_by past (t ∷ ts)) ≡ length past + length (t ∷ ts) = followed_length past (t ∷ ts) in omega arith

found_fault : (past : List Token) (t : Token) (ts : List Token) (f o : Option Fault)
    → Found past t o → Ends (followed_by past (t ∷ ts)) f o (length ts)
found_fault past t ts f o d =
    let first : FirstAt (with_end f (followed_by past (t ∷ ts))) (length past) d.told = found_first past t ts f o d in
    subst (λ (z : Option Fault). Ends (followed_by past (t ∷ ts)) f z (length ts)) (sym d.same) (record {
      fault = record { unfinished = d.no_sentence ts; fault = inl first.0 };
      told = inl (record { first = first.0; behind = behind_place past t ts first.0.place.number first.1 });
    })

-- at the end of a list without a fault of its own
behind_all : (past : List Token) (n : ℕ) → n ≡ length past
    → 0 ≡ length (followed_by past []) - suc n
behind_all past n p = let q : length (followed_by past []) ≡ length past + length {A = Token} [] = followed_length past [] in omega arith

found_at_end : (past : List Token) (o : Option Fault) → Unfinished past → Found past no_token o
    → Ends (followed_by past []) None o 0
found_at_end past o u d =
    let first : FirstAt (followed_by past [] ++ no_token ∷ []) (length past) d.told =
    subst (λ (us : List Token). FirstAt us (length past) d.told) (sym (followed_on past [] (no_token ∷ []))) (d.first []) in
    subst (λ (z : Option Fault). Ends (followed_by past []) None z 0) (sym d.same) (record {
      fault = record { unfinished = no_whole_sentence past u; fault = inl first.0 };
      told = inl (record { first = first.0; behind = behind_all past first.0.place.number first.1 });
    })

-- ---- a token that is taken

-- the stack waits for nothing where no state is left
pub taken_goes : (x : State) (s s' : List State) (past : List Token) (ds : Directives) (t : Token)
    (is : List RawEvent) → At x s past ds → feed (x ∷ s) t ≡ go is s' → (us : List Token)
    → Over s' Empty us → Over initial Empty (followed_by past (t ∷ us))
taken_goes x s s' past ds t is a p us h = a.goes (t ∷ us) (subst (Takes Empty (x ∷ s) t) p (takes Empty (x ∷ s) t (stack_solid x s a.stack)) us h)

pub taken_on : (x : State) (s s' : List State) (past : List Token) (ds : Directives) (t : Token)
    (is : List RawEvent) → At x s past ds → feed (x ∷ s) t ≡ go is s'
    → GoesOn (followed_by past (t ∷ []))
taken_on x s s' past ds t is a p = goes_on past t (closers zero_mark s') (taken_goes x s s' past ds t is a p (closers zero_mark s') (all_close zero_mark s'))

taken_reached : (x : State) (s s' : List State) (past : List Token) (ds : Directives) (t : Token)
    (is : List RawEvent) → At x s past ds → feed (x ∷ s) t ≡ go is s'
    → (us : List Token) (f : Option Fault)
    → (run (followed_by past (t ∷ us)) initial f).ending ≡ (run us s' f).ending
taken_reached x s s' past ds t is a p us f = a.reached (t ∷ us) f ∙ ap (λ (o : Outcome). o.ending) (runs_fed (x ∷ s) t us f (go is s') p)

-- no tree is done where a state is left
pub run_some : (x : State) (s : List State) (g : Fault) → (run [] (x ∷ s) (Some g)).ending ≡ Some g
unfolding run
run_some x s g = refl

not_done : (x : State) (s : List State) (past : List Token)
    → ((us : List Token) (f : Option Fault) → (run (followed_by past us) initial f).ending
    ≡ (run us (x ∷ s) f).ending) → (tree : Stream) → followed_by past [] ≡ spell tree [] → ⊥
not_done x s past r tree p =
    let g : Fault = grammar_fault [] zero_mark in
    not_none g
    (sym (r [] (Some g) ∙ run_some x s g) ∙ ap (λ (us : List Token). (run us initial (Some g)).ending) p ∙ ap (λ (o : Outcome). o.ending) (stream_runs tree [] (Some g)))

pub taken_at : (x : State) (s : List State) (y : State) (s' : List State) (past : List Token)
    (ds ds' : Directives) (t : Token) (is : List RawEvent) → At x s past ds
    → feed (x ∷ s) t ≡ go is (y ∷ s')
    → handle_fault past t.body ≡ None → directive_fault past t.body t.start_mark ≡ None
    → Dirs (y ∷ s') (t ∷ past) ds' → At y s' (t ∷ past) ds'
taken_at x s y s' past ds ds' t is a p h d i =
    let k : Stacked t.body t.start_mark (open_in (x ∷ s)) (y ∷ s') = subst (FedKept t.body t.start_mark (open_in (x ∷ s))) p (fed_kept x s t a.stack a.plain a.nested) in
    record {
      signs = k.kept.opened ∙ ap (λ (gs : List Sign). signs_behind t.body t.start_mark gs) a.signs ∙ sym (signs_on t past);
      last = k.kept.topped.0;
      plain = k.kept.topped.1;
      nested = k.kept.nested;
      stack = k.stack;
      stood = subst FedStood p (feed_stood (x ∷ s) t a.stood);
      dirs = i;
      props = subst (FedProps (t ∷ past)) p (fed_props x s t past a.plain a.nested a.last a.props);
      reached = taken_reached x s (y ∷ s') past ds t is a p;
      goes = taken_goes x s (y ∷ s') past ds t is a p;
      clean = (no_fault past t h (taken_on x s (y ∷ s') past ds t is a p) d, a.clean);
      unfinished = λ tree. (not_done y s' (t ∷ past) (taken_reached x s (y ∷ s') past ds t is a p) tree, a.unfinished tree);
    }

-- the last token of a stream
pub finished_here : (x : State) (s : List State) (past : List Token) (ds : Directives) (t : Token)
    (ts : List Token) (is : List RawEvent) (f : Option Fault) → At x s past ds
    → feed (x ∷ s) t ≡ go is []
    → handle_fault past t.body ≡ None → directive_fault past t.body t.start_mark ≡ None
    → FaultOfTokens (followed_by past (t ∷ ts)) f None
finished_here x s past ds t ts is f a p h d =
    let e : (tree : Stream) × (followed_by past (t ∷ []) ≡ spell tree []) = sentence_tree (followed_by past (t ∷ [])) (taken_goes x s [] past ds t is a p [] refl) in
    record {
      tree = e.0;
      rest = ts;
      same = sym (followed_on past (t ∷ []) ts) ∙ ap (λ (us : List Token). us ++ ts) e.1;
      free = subst (λ (us : List Token). (q : _) (g : _) → StandsIn us q g → ⊥) e.1 (free (t ∷ past) (no_fault past t h (taken_on x s [] past ds t is a p) d, a.clean));
    }

-- ---- a list of tokens

abbrev EndsFrom : State → List State → List Token → Directives → List Token → Option Fault → Type 0
EndsFrom x s past ds ts f = Ends (followed_by past ts) f (reading_of (run ts (x ∷ s) f) ds).ending (unasked_of ts f (x ∷ s) ds)

nothing_left : (ts : List Token) (f : Option Fault) (ds : Directives)
    → (reading_of (run ts [] f) ds).ending ≡ None
unfolding reading
nothing_left ts f ds = ap (λ (o : Outcome). (reading_of o ds).ending) (nothing_runs ts f)

gone : (x : State) (s s' : List State) (past : List Token) (ds : Directives) (t : Token)
    (ts : List Token) (is : List RawEvent) (f : Option Fault) (d : Done) → At x s past ds
    → feed (x ∷ s) t ≡ go is s'
    → handle_fault past t.body ≡ None → StepRead past t d s'
    → ((y : State) (z : List State) (ds' : Directives) → At y z (t ∷ past) ds'
    → EndsFrom y z (t ∷ past) ds' ts f)
    → Ends (followed_by past (t ∷ ts)) f
    (ending_of d (λ ds'. (reading_of (run ts s' f) ds').ending))
    (number_of d (length ts) (λ ds'. unasked_of ts f s' ds'))
gone x s s' past ds t ts is f (bad e) a p h r k = found_fault past t ts f (Some e) (found_token x s past ds t e (Some e) a h (directive (taken_on x s s' past ds t is a p) r) refl)
gone x s [] past ds t ts is f (fine ds') a p h r k =
    subst (λ (z : Option Fault). Ends (followed_by past (t ∷ ts)) f z (unasked_of ts f [] ds')) (sym (nothing_left ts f ds'))
    (record { fault = (finished_here x s past ds t ts is f a p h r.0); told = tt })
gone x s (y ∷ s') past ds t ts is f (fine ds') a p h r k = k y s' ds' (taken_at x s y s' past ds ds' t is a p h r.0 r.1)

stepped : (x : State) (s : List State) (past : List Token) (ds : Directives) (t : Token)
    (ts : List Token) (f : Option Fault) (fed : Fed) (h : Option Fault) → At x s past ds
    → feed (x ∷ s) t ≡ fed
    → handle_fault past t.body ≡ h → Step past ds t h fed
    → ((y : State) (z : List State) (ds' : Directives) → At y z (t ∷ past) ds'
    → EndsFrom y z (t ∷ past) ds' ts f)
    → Ends (followed_by past (t ∷ ts)) f
    (reading_of (carry (length ts) fed (λ s'. run ts s' f)) ds).ending (fed_number ts f ds fed)
stepped x s past ds t ts f (stop is e) h a p q r k =
    ends_same (followed_by past (t ∷ ts)) f _ _ (length ts) (fed_number ts f ds (stop is e)) refl (last_number is (length ts) ds)
    (found_fault past t ts f _ (stopped x s past ds t is e h a p q r _ (last_read is (length ts) (Some e) ds)))
stepped x s past ds t ts f (go is s') (Some e) a p q r k =
    ends_same (followed_by past (t ∷ ts)) f _ _ (length ts) (fed_number ts f ds (go is s')) refl
    (go_number is s' ts f ds ∙ ap (λ (z : Done). number_of z (length ts) (λ d. unasked_of ts f s' d)) r)
    (found_fault past t ts f _ (found_handle x s past ds t e _ a q (read_go is s' (length ts) (λ s'. run ts s' f) ds ∙ ap (λ (d : Done). ending_of d (λ ds'. (reading_of (run ts s' f) ds').ending)) r)))
stepped x s past ds t ts f (go is s') None a p q r k =
    ends_same (followed_by past (t ∷ ts)) f _ _ _ _ (read_go is s' (length ts) (λ s'. run ts s' f) ds) (go_number is s' ts f ds) (gone x s s' past ds t ts is f (read_all is ds) a p q r k)

run_own : (x : State) (s : List State) (g : Fault) (ds : Directives)
    → (reading_of (run [] (x ∷ s) (Some g)) ds).ending ≡ Some g
unfolding run reading
run_own x s g ds = refl

own_number : (x : State) (s : List State) (g : Fault) (ds : Directives)
    → unasked_of [] (Some g) (x ∷ s) ds ≡ 0
unfolding run unasked_at_fault unasked_at_stop
own_number x s g ds = refl

pub no_stop : (is : List RawEvent) (s : List State) → Stops (go is s) → ⊥
no_stop is s h = h

at_last : (x : State) (s : List State) (past : List Token) (ds : Directives) (fed : Fed)
    → At x s past ds → feed (x ∷ s) no_token ≡ fed
    → Step past ds no_token (handle_fault past no_token.body) fed → Stops fed
    → Ends (followed_by past []) None (reading_of (carry 0 fed (λ _. finished)) ds).ending
    (unasked_at_fault (carry 0 fed (λ _. finished)).items 0 ds)
at_last x s past ds (stop is e) a p r h =
    ends_same (followed_by past []) None _ _ 0 _ refl (last_number is 0 ds)
    (found_at_end past _ a.unfinished (stopped x s past ds no_token is e (handle_fault past no_token.body) a p refl r _ (last_read is 0 (Some e) ds)))
at_last x s past ds (go is s') a p r h = absurd (no_stop is s' h)

pub step_at : (x : State) (s : List State) (past : List Token) (ds : Directives) (t : Token)
    → At x s past ds → Step past ds t (handle_fault past t.body) (feed (x ∷ s) t)
step_at x s past ds t a = step_read x s t past ds a.stack a.plain a.nested a.dirs a.last a.props

-- a step of the list
out_number : (s : List State) (ds : Directives)
    → unasked_of [] None s ds ≡ unasked_at_fault (carry 0 (feed s no_token) (λ _. finished)).items 0
    ds
unfolding run unasked_at_stop
out_number s ds = refl

step_number : (s : List State) (t : Token) (ts : List Token) (f : Option Fault) (ds : Directives)
    → unasked_of (t ∷ ts) f s ds ≡ fed_number ts f ds (feed s t)
unfolding run unasked_at_stop
step_number s t ts f ds = refl

ends : (ts past : List Token) (x : State) (s : List State) (ds : Directives) (f : Option Fault)
    → At x s past ds → EndsFrom x s past ds ts f
ends [] past x s ds (Some g) a =
    ends_same (followed_by past []) (Some g) _ _ 0 _ (run_own x s g ds) (own_number x s g ds) (record {
      fault = record { unfinished = no_whole_sentence past a.unfinished; fault = inr (record { same = refl; free = free past a.clean }) };
      told = inr (record { same = refl; free = free past a.clean }, refl);
    })
ends [] past x s ds None a =
    ends_same (followed_by past []) None _ _ _ _ (ap (λ (o : Outcome). (reading_of o ds).ending) (runs_out (x ∷ s) (feed (x ∷ s) no_token) refl)) (out_number (x ∷ s) ds)
    (at_last x s past ds (feed (x ∷ s) no_token) a refl (step_at x s past ds no_token a) (stops_at_none (x ∷ s) (stack_solid x s a.stack)))
ends (t ∷ ts) past x s ds f a =
    ends_same (followed_by past (t ∷ ts)) f _ _ _ _ (ap (λ (o : Outcome). (reading_of o ds).ending) (runs_fed (x ∷ s) t ts f (feed (x ∷ s) t) refl)) (step_number (x ∷ s) t ts f ds)
    (stepped x s past ds t ts f (feed (x ∷ s) t) (handle_fault past t.body) a refl refl (step_at x s past ds t a) (λ y z ds' b. ends ts (t ∷ past) y z ds' f b))

pub at_start : At state.stream [] [] no_directives
at_start = grind (arith, none_agree)

pub ends_in_fault : EndsInFault
ends_in_fault ts own = (ends ts [] state.stream [] no_directives own at_start).fault

pub fault_ends : FaultEnds
fault_ends ts own fault h = one_fault ts own (reading_of (run ts initial own) no_directives).ending fault (ends_in_fault ts own) h

pub told_at_place : FaultIsToldAtPlace
told_at_place ts own e p =
    (subst (λ (z : Option Fault). Told ts own z (unasked_of ts own initial no_directives)) p (ends ts [] state.stream [] no_directives own at_start).told)
