-- Loads end in the fault of the list.
use Rattle.std.proofs.Common.{◌≡◌, inl, inr, ℕ, List, [], ◌∷◌, ◌++◌, length, Option, Some, None, refl, ap, sym, subst, ◌∙◌, arith}
use Rattle.yaml_parse_laws_trees.proofs.Words.{Token, no_token, Fault, RawEvent, State, Stream, spell, Fed, stop, go, feed, Outcome, finished, carry, run, initial, Directives, no_directives, reading, reading_of, followed_by, handle_fault, directive, StandsIn, with_end, FaultOfTokens, Loading, nothing_loaded, alias_fault, IsFirstIn, IsLoadable, FaultOfLoading, LoadsEndInFault, FaultEndsLoads, loads_end}
use Rattle.yaml_parse_laws_trees.specs.parse_grammar.States as state
use Rattle.yaml_parse_laws_trees.proofs.CompleteStream.{nothing_runs}
use Rattle.yaml_parse_laws_trees.proofs.Cuts.{Reaches, reaches, followed_on, head_same}
use Rattle.yaml_parse_laws_trees.proofs.Settling.{Done, bad, fine, read_all}
use Rattle.yaml_parse_laws_trees.proofs.Stepping.{StepRead}
use Rattle.yaml_parse_laws_trees.proofs.Tagging.{Step}
use Rattle.yaml_parse_laws_trees.proofs.Taking.{stack_solid, Stops, stops_at_none, ending_of}
use Rattle.yaml_parse_laws_trees.proofs.Clean.{Clean, Unfinished, FirstAt, no_fault, free, no_whole_sentence}
use Rattle.yaml_parse_laws_trees.proofs.Ending.{At, at_start, step_at, Found, found_handle, found_token, found_first, stopped, taken_goes, taken_on, taken_at, sentence_tree, runs_fed, runs_out, ends_in_fault, no_stop}
use Rattle.yaml_parse_laws_trees.proofs.Ends.{fault_of_loads, faults_alike}
use Rattle.yaml_parse_laws_trees.proofs.Placing.{Anchored, loadable, parser_first, alias_first}
use Rattle.yaml_parse_laws_trees.proofs.Unique.{one_load_fault}
use Rattle.yaml_parse_laws_trees.proofs.ItemsLoaded.{Fared, ended, load_items, fared_fault, ends_in, front_loads, last_loads}
use Rattle.yaml_parse_laws_trees.proofs.Fitting.{Fits, Alike, AtAlias, Steps, FedLoads}
use Rattle.yaml_parse_laws_trees.proofs.StacksFit.{stack_sits, fed_loads}

-- ---- a fault at a token

-- what the list with its end is, after the tokens that were read
record Rest (past us : List Token) (f : Option Fault) : Type 0 where
  rest : List Token
  same : with_end f (followed_by past us) ≡ followed_by past (us ++ rest)

rest_of : (past us : List Token) (f : Option Fault) → Rest past us f
rest_of past us None = record { rest = no_token ∷ []; same = followed_on past us (no_token ∷ []) }
rest_of past us (Some g) = record { rest = []; same = sym (followed_none (followed_by past us)) ∙ followed_on past us [] }
  where
    followed_none : (xs : List Token) → xs ++ [] ≡ xs
    followed_none [] = refl
    followed_none (x ∷ xs) = ap (λ (ys : List Token). x ∷ ys) (followed_none xs)

found_load : (past : List Token) (t : Token) (ts : List Token) (f o : Option Fault) → Anchored past
    → Found past t o → FaultOfLoading (followed_by past (t ∷ ts)) f o
found_load past t ts f o a d =
    let r : Rest past (t ∷ ts) f = rest_of past (t ∷ ts) f in
    subst (λ (z : Option Fault). FaultOfLoading (followed_by past (t ∷ ts)) f z) (sym d.same)
    (inr (record {
      unfinished = d.no_sentence ts;
      fault = inl (parser_first past (t ∷ (ts ++ r.rest)) (with_end f (followed_by past (t ∷ ts))) d.told r.same a (found_first past t ts f o d));
    }))

found_last : (past : List Token) (o : Option Fault) → Anchored past → Unfinished past
    → Found past no_token o → FaultOfLoading (followed_by past []) None o
found_last past o a u d =
    let p : followed_by past [] ++ no_token ∷ [] ≡ followed_by past (no_token ∷ []) = followed_on past [] (no_token ∷ []) in
    subst (λ (z : Option Fault). FaultOfLoading (followed_by past []) None z) (sym d.same)
    (inr (record {
      unfinished = no_whole_sentence past u;
      fault = inl (parser_first past (no_token ∷ []) (followed_by past [] ++ no_token ∷ []) d.told p a (subst (λ (us : List Token). FirstAt us (length past) d.told) (sym p) (d.first [])));
    }))

-- ---- an alias without an anchor

alias_found : (past : List Token) (t : Token) (ts : List Token) (f o : Option Fault) (e : Fault)
    → Clean (t ∷ past) → Anchored past → Unfinished past
    → alias_fault past t.body t.start_mark ≡ Some e
    → FaultOfTokens (followed_by past (t ∷ ts)) f o
    → FaultOfLoading (followed_by past (t ∷ ts)) f (Some e)
alias_found past t ts f None e c a u h b =
    let r : Reaches past (t ∷ ts) (spell b.tree []) b.rest = reaches past (t ∷ ts) (spell b.tree []) b.rest b.same (u b.tree) in
    inl (record {
      sentence = b;
      first = subst (λ (us : List Token). IsFirstIn us e) (sym (r.same ∙ ap (λ (z : Token). followed_by past (z ∷ r.more)) (sym (head_same t r.token ts (r.more ++ b.rest) r.behind)))) (alias_first past t r.more e c a h);
    })
alias_found past t ts f (Some g) e c a u h b =
    let r : Rest past (t ∷ ts) f = rest_of past (t ∷ ts) f in
    inr (record { unfinished = b.unfinished; fault = inl (subst (λ (us : List Token). IsFirstIn us e) (sym r.same) (alias_first past t (ts ++ r.rest) e c a h)) })

-- ---- what loads of a step end in

go_ends : (is : List RawEvent) (s : List State) (left : ℕ) (k : List State → Outcome)
    (ds : Directives) (l : Loading)
    → ends_in (reading_of (carry left (go is s) k) ds) l
    ≡ fared_fault (load_items is ds l) (λ d m. ends_in (reading_of (k s) d) m)
go_ends is s left k ds l = front_loads is left (k s).items (k s).ending ds l

alike_ends : (d : Done) (r : Fared) (e : Fault) → Alike d r
    → fared_fault r (λ d m. Some e) ≡ ending_of d (λ d. Some e)
alike_ends d r e h = grind arith

bad_ends : (past : List Token) (t : Token) (d : Done) (r : Fared) (s : List State) (g : Fault)
    (k : Directives → Loading → Option Fault) → d ≡ bad g → Steps past t d r s
    → fared_fault r k ≡ Some g
bad_ends past t d r s g k p h = grind arith

-- ---- a token that is taken

abbrev LoadsFrom : List State → List Token → Directives → Loading → List Token → Option Fault
    → Type 0
LoadsFrom s past ds l ts f = FaultOfLoading (followed_by past ts) f (ends_in (reading_of (run ts s f) ds) l)

-- each stack after the token
abbrev Behind : Token → List Token → List Token → Option Fault → Type 0
Behind t past ts f = (y : State) (z : List State) (ds : Directives) (m : Loading) → At y z (t ∷ past) ds → Anchored (t ∷ past) → Fits (y ∷ z) (t ∷ past) m → LoadsFrom (y ∷ z) (t ∷ past) ds m ts f

nothing_to_load : (ts : List Token) (f : Option Fault) (ds : Directives) (m : Loading)
    → ends_in (reading_of (run ts [] f) ds) m ≡ None
unfolding reading fault_of_loads
nothing_to_load ts f ds m = ap (λ (o : Outcome). ends_in (reading_of o ds) m) (nothing_runs ts f)

finished_here : (x : State) (s : List State) (past : List Token) (ds : Directives) (t : Token)
    (ts : List Token) (is : List RawEvent) (f : Option Fault) → At x s past ds
    → feed (x ∷ s) t ≡ go is []
    → Clean (t ∷ past) → Anchored (t ∷ past) → FaultOfLoading (followed_by past (t ∷ ts)) f None
finished_here x s past ds t ts is f a p c n =
    let e : (tree : Stream) × (followed_by past (t ∷ []) ≡ spell tree []) = sentence_tree (followed_by past (t ∷ [])) (taken_goes x s [] past ds t is a p [] refl) in
    record {
      sentence = record {
        tree = e.0;
        rest = ts;
        same = sym (followed_on past (t ∷ []) ts) ∙ ap (λ (us : List Token). us ++ ts) e.1;
        free = subst (λ (us : List Token). (q : _) (g : _) → StandsIn us q g → ⊥) e.1 (free (t ∷ past) c);
      };
      first = subst IsLoadable e.1 (loadable (t ∷ past) c n);
    }

on_ended : (ts us : List Token) (f : Option Fault) (r : Fared) (o : Option Fault)
    (k : Directives → Loading → Option Fault) → r ≡ ended o → FaultOfLoading us f o
    → FaultOfLoading us f (fared_fault r k)
on_ended ts us f r o k p h = subst (λ (z : Fared). FaultOfLoading us f (fared_fault z k)) (sym p) h

at_alias : (x : State) (s s' : List State) (past : List Token) (ds ds' : Directives) (t : Token)
    (ts : List Token) (is : List RawEvent) (f : Option Fault) (r : Fared) (o : Option Fault)
    → At x s past ds → Anchored past
    → feed (x ∷ s) t ≡ go is s' → handle_fault past t.body ≡ None → StepRead past t (fine ds') s'
    → alias_fault past t.body t.start_mark ≡ o → AtAlias o ds' r s' (t ∷ past) → Behind t past ts f
    → FaultOfLoading (followed_by past (t ∷ ts)) f
    (fared_fault r (λ d m. ends_in (reading_of (run ts s' f) d) m))
at_alias x s s' past ds ds' t ts is f r (Some e) a n p h q w j k =
    on_ended ts (followed_by past (t ∷ ts)) f r (Some e) (λ d m. ends_in (reading_of (run ts s' f) d) m) j
    (alias_found past t ts f _ e (no_fault past t h (taken_on x s s' past ds t is a p) q.0, a.clean) n a.unfinished w (ends_in_fault (followed_by past (t ∷ ts)) f))
at_alias x s [] past ds ds' t ts is f r None a n p h q w j k =
    subst (λ (z : Fared). FaultOfLoading (followed_by past (t ∷ ts)) f (fared_fault z (λ d m. ends_in (reading_of (run ts [] f) d) m))) (sym j.1)
    (subst (λ (z : Option Fault). FaultOfLoading (followed_by past (t ∷ ts)) f z) (sym (nothing_to_load ts f ds' j.0))
    (finished_here x s past ds t ts is f a p (no_fault past t h (taken_on x s [] past ds t is a p) q.0, a.clean) (w, n)))
at_alias x s (y ∷ s') past ds ds' t ts is f r None a n p h q w j k =
    subst (λ (z : Fared). FaultOfLoading (followed_by past (t ∷ ts)) f (fared_fault z (λ d m. ends_in (reading_of (run ts (y ∷ s') f) d) m))) (sym j.1)
    (k y s' ds' j.0 (taken_at x s y s' past ds ds' t is a p h q.0 q.1) (w, n) j.2)

gone : (x : State) (s s' : List State) (past : List Token) (ds : Directives) (t : Token)
    (ts : List Token) (is : List RawEvent) (f : Option Fault) (d : Done) (r : Fared)
    → At x s past ds → Anchored past
    → feed (x ∷ s) t ≡ go is s' → handle_fault past t.body ≡ None → StepRead past t d s'
    → Steps past t d r s' → Behind t past ts f
    → FaultOfLoading (followed_by past (t ∷ ts)) f
    (fared_fault r (λ d m. ends_in (reading_of (run ts s' f) d) m))
gone x s s' past ds t ts is f (bad e) r a n p h q j k =
    on_ended ts (followed_by past (t ∷ ts)) f r (Some e) (λ d m. ends_in (reading_of (run ts s' f) d) m) j
    (found_load past t ts f (Some e) n (found_token x s past ds t e (Some e) a h (directive (taken_on x s s' past ds t is a p) q) refl))
gone x s s' past ds t ts is f (fine ds') r a n p h q j k = at_alias x s s' past ds ds' t ts is f r (alias_fault past t.body t.start_mark) a n p h q refl j k

loads_same : (us : List Token) (f o o' : Option Fault) → o' ≡ o → FaultOfLoading us f o
    → FaultOfLoading us f o'
loads_same us f o o' p h = subst (λ (z : Option Fault). FaultOfLoading us f z) (sym p) h

stepped : (x : State) (s : List State) (past : List Token) (ds : Directives) (l : Loading)
    (t : Token) (ts : List Token) (f : Option Fault) (fed : Fed) (h : Option Fault) → At x s past ds
    → Anchored past
    → feed (x ∷ s) t ≡ fed → handle_fault past t.body ≡ h → Step past ds t h fed
    → FedLoads past t ds l fed → Behind t past ts f
    → FaultOfLoading (followed_by past (t ∷ ts)) f
    (ends_in (reading_of (carry (length ts) fed (λ s'. run ts s' f)) ds) l)
stepped x s past ds l t ts f (stop is e) h a n p q r j k =
    found_load past t ts f _ n (stopped x s past ds t is e h a p q r _ ((last_loads is (length ts) (Some e) ds l) ∙ alike_ends (read_all is ds) (load_items is ds l) e j))
stepped x s past ds l t ts f (go is s') (Some g) a n p q r j k =
    found_load past t ts f _ n
    (found_handle x s past ds t g _ a q
    (go_ends is s' (length ts) (λ s'. run ts s' f) ds l ∙ bad_ends past t (read_all is ds) (load_items is ds l) s' g (λ d m. ends_in (reading_of (run ts s' f) d) m) r j))
stepped x s past ds l t ts f (go is s') None a n p q r j k =
    loads_same (followed_by past (t ∷ ts)) f _ _ (go_ends is s' (length ts) (λ s'. run ts s' f) ds l) (gone x s s' past ds t ts is f (read_all is ds) (load_items is ds l) a n p q r j k)

at_last : (x : State) (s : List State) (past : List Token) (ds : Directives) (l : Loading)
    (fed : Fed) → At x s past ds → Anchored past → feed (x ∷ s) no_token ≡ fed
    → Step past ds no_token (handle_fault past no_token.body) fed → FedLoads past no_token ds l fed
    → Stops fed
    → FaultOfLoading (followed_by past []) None
    (ends_in (reading_of (carry 0 fed (λ _. finished)) ds) l)
at_last x s past ds l (stop is e) a n p r j h =
    found_last past _ n a.unfinished
    (stopped x s past ds no_token is e (handle_fault past no_token.body) a p refl r _ ((last_loads is 0 (Some e) ds l) ∙ alike_ends (read_all is ds) (load_items is ds l) e j))
at_last x s past ds l (go is s') a n p r j h = absurd (no_stop is s' h)

run_own : (x : State) (s : List State) (g : Fault) (ds : Directives) (l : Loading)
    → ends_in (reading_of (run [] (x ∷ s) (Some g)) ds) l ≡ Some g
unfolding run reading fault_of_loads
run_own x s g ds l = refl

loads_at : (x : State) (s : List State) (past : List Token) (ds : Directives) (l : Loading)
    (t : Token) → At x s past ds → Fits (x ∷ s) past l → FedLoads past t ds l (feed (x ∷ s) t)
loads_at x s past ds l t a h = fed_loads (x ∷ s) t past ds l (stack_sits x s a.stack) a.plain h

loads : (ts past : List Token) (x : State) (s : List State) (ds : Directives) (l : Loading)
    (f : Option Fault) → At x s past ds → Anchored past → Fits (x ∷ s) past l
    → LoadsFrom (x ∷ s) past ds l ts f
loads [] past x s ds l (Some g) a n h =
    loads_same (followed_by past []) (Some g) (Some g) _ (run_own x s g ds l)
    (inr (record { unfinished = no_whole_sentence past a.unfinished; fault = inr (record { same = refl; free = loadable past a.clean n }) }))
loads [] past x s ds l None a n h =
    loads_same (followed_by past []) None _ _ (ap (λ (o : Outcome). ends_in (reading_of o ds) l) (runs_out (x ∷ s) (feed (x ∷ s) no_token) refl))
    (at_last x s past ds l (feed (x ∷ s) no_token) a n refl (step_at x s past ds no_token a) (loads_at x s past ds l no_token a h) (stops_at_none (x ∷ s) (stack_solid x s a.stack)))
loads (t ∷ ts) past x s ds l f a n h =
    loads_same (followed_by past (t ∷ ts)) f _ _ (ap (λ (o : Outcome). ends_in (reading_of o ds) l) (runs_fed (x ∷ s) t ts f (feed (x ∷ s) t) refl))
    (stepped x s past ds l t ts f (feed (x ∷ s) t) (handle_fault past t.body) a n refl refl (step_at x s past ds t a) (loads_at x s past ds l t a h) (λ y z ds' m b c k. loads ts (t ∷ past) y z ds' m f b c k))

pub steps_end_in_fault : (ts : List Token) (own : Option Fault)
    → FaultOfLoading ts own (ends_in (reading_of (run ts initial own) no_directives) nothing_loaded)
steps_end_in_fault ts own = loads ts [] state.stream [] no_directives nothing_loaded own at_start tt (λ name. refl)

pub loads_end_in_fault : LoadsEndInFault
loads_end_in_fault ts own = grind (arith, loads_same, faults_alike, steps_end_in_fault)

pub fault_ends_loads : FaultEndsLoads
fault_ends_loads ts own fault h = one_load_fault ts own (loads_end (reading_of (run ts initial own) no_directives)) fault (loads_end_in_fault ts own) h
