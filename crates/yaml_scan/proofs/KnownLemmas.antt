-- Tokens that are taken from a scanner, one after another.
use Rattle.std.proofs.Common.{◌≡◌, ℕ, ◌+◌, ◌<◌, ◌≤◌, ◌^◌, Bool, true, false, not, List, [], ◌∷◌, ◌++◌, length, Option, Some, None, Result, Ok, Err, refl, sym, ap, subst, ◌∙◌, inl, inr, arith}
use Rattle.std.proofs.lemmas.Bool.{cases_lt, true≢false, ltb-true}
use Rattle.std.specs.Prelude.{All, IfErr, OnOk}
use Rattle.std.proofs.lemmas.List.Elements.{All-append, All-cons, All-nil}
use Rattle.yaml_scan_model.specs.declared.fault.yaml_origin_t.TheVariants.{Scanner as OfScanner}
use Rattle.yaml_scan_model.specs.declared.fault.yaml_fault_t.{yaml_fault_t}
use Rattle.yaml_scan_model.specs.declared.token.yaml_token_t.{yaml_token_t}
use Rattle.yaml_scan_model.specs.Coming.{MayAnswer, front_of, rest_of}
use Rattle.yaml_scan_types.specs.Faults.{Fault, fault_of, memory_fault}
use Rattle.yaml_scan_types.specs.Tokens.{Token, token_of}
use Rattle.yaml_scan_history.specs.History.{most_waiting}
use Rattle.yaml_scan_history.specs.Remaining.{Remaining, SpelledText}
use Rattle.yaml_scan_core.specs.declared.scanner.Scanner.{Scanner}
use Rattle.yaml_scan_core.specs.Asked.{Waits, behind_first}
use Rattle.yaml_scan_core.specs.Found.{HasMore}
use Rattle.yaml_scan_core.specs.Handed.{to_come}
use Rattle.yaml_scan_core.specs.Owned.{IsRefused, OwnedNeeded, TellsOwned}
use Rattle.yaml_scan_core.specs.Scanning.{Fixed, read_by, stream_of}
use Rattle.yaml_scan_core.specs.Waiting.{IsRead, IsShort, ReadsNeeded, knows, taken_by}
use Rattle.yaml_scan_core.proofs.KnowsLemmas.{knows_is, tells}
use Rattle.yaml_scan_core.proofs.MoreLemmas.{going_has_more, over_nothing}
use Rattle.yaml_scan.specs.declared.known.Known.{Known}
unfoldable use Rattle.yaml_scan.specs.Known.{taken_behind}
use Rattle.yaml_scan.specs.Known.{Fails, Gives, GivesAll, GivesOne, IsReady, TakesOne, comes_behind, tokens_of}

-- ---- one token

abbrev both : List Token → Option Fault → Remaining
both ts f = record { tokens = ts; fault = f }

split : (ts : List Token) (f : Option Fault) (x : Token) → HasMore ts f → MayAnswer ts f
    → x ≡ front_of ts → both ts f ≡ both (x ∷ rest_of ts) f
split [] None x more may is = absurd more
split [] (Some f) x more may is = cc
split (t ∷ ts) f x more may is = rw is refl

-- the token that is given comes first
come_first : (r q : Remaining) (x : Token) → HasMore r.tokens r.fault → MayAnswer r.tokens r.fault
    → x ≡ front_of r.tokens → q ≡ behind_first r
    → r ≡ both (x ∷ q.tokens) q.fault
come_first r q x more may is rest = split r.tokens r.fault x more may is ∙ ap (λ (c : Remaining). both (x ∷ c.tokens) c.fault) (sym rest)

text_length : (old new : Scanner) → stream_of new ≡ stream_of old → length old.text.now < 2 ^ 63
    → length new.text.now < 2 ^ 63
text_length old new stream long = subst (λ (t : SpelledText). length t.text < 2 ^ 63) (sym stream) long

pub ready_behind : (old new : Scanner) → IsReady old → Waits new → stream_of new ≡ stream_of old
    → OwnedNeeded old new → IsReady new
ready_behind old new r w stream n = record {
  waits = w;
  read = n.reads.read;
  one = ap (λ (x : Fixed). x.batch) n.fixed ∙ r.one;
  short = n.short r.short;
  long = text_length old new stream r.long;
}

-- one was given
pub gives_one : (old new : Scanner) (k : Known) → IsReady old
    → HasMore (to_come old).tokens (to_come old).fault → Waits new → stream_of new ≡ stream_of old
    → TellsOwned (to_come old) new (Ok k.token) → OwnedNeeded old new → k.taken ≡ taken_by new
    → GivesOne old new k
gives_one old new k r more w stream (is, rest, may) n taken = record {
  ready = ready_behind old new r w stream n;
  stream = stream;
  come = come_first (to_come old) (to_come new) (token_of k.token) more may is rest;
  taken = taken;
  few = n.few r.short;
  reads = n.reads;
}

-- one is taken into the queue, or there is no room for it
pub took : (old new : Scanner) (was is : List Known) (t : yaml_token_t) (n : ℕ)
    (r : Result (Unit {0}) yaml_fault_t) → IsReady old
    → HasMore (to_come old).tokens (to_come old).fault → Waits new → stream_of new ≡ stream_of old
    → TellsOwned (to_come old) new (Ok t) → OwnedNeeded old new → n ≡ taken_by new
    → OnOk r (is ≡ was ++ record { token = t; taken = n } ∷ [])
    → IfErr r (λ f. fault_of f ≡ memory_fault OfScanner) → TakesOne old new was is r
took old new was is t n (Ok done) r more w stream told needed taken put lacks =
    (record { token = t; taken = n }, put, gives_one old new record { token = t; taken = n } r more w stream told needed taken)
took old new was is t n (Err f) r more w stream told needed taken put lacks = record { more = more; told = inl lacks }

-- ---- one after another

tokens_more : (ks : List Known) (k : Known) (ts : List Token)
    → tokens_of (ks ++ k ∷ []) ++ ts ≡ tokens_of ks ++ token_of k.token ∷ ts
tokens_more [] k ts = refl
tokens_more (x ∷ ks) k ts = ap (λ us. token_of x.token ∷ us) (tokens_more ks k ts)

taken_more : (ks : List Known) (k : Known) (n : ℕ) → taken_behind (ks ++ k ∷ []) n ≡ k.taken
unfolding taken_behind
taken_more [] k n = refl
taken_more (x ∷ ks) k n = taken_more ks k x.taken

one_later : (P : Known → Type 0) (k : Known) → P k → All P (k ∷ [])
one_later P k p = All-cons P k [] p (All-nil P)

taken_one : (k : Known) (n : ℕ) → taken_behind (k ∷ []) n ≡ k.taken
unfolding taken_behind
taken_one k n = refl

short_few : (s : Scanner) → IsShort s → read_by s ≤ taken_by s + most_waiting
short_few s short = omega (arith, short)

pub gives_first : (old new : Scanner) (k : Known) → GivesOne old new k → Gives old new (k ∷ [])
gives_first old new k g = record {
  ready = g.ready;
  stream = g.stream;
  come = g.come;
  last = taken_one k (taken_by old) ∙ g.taken;
  few = g.few;
  later = one_later (λ (x : Known). read_by new ≤ x.taken + most_waiting) k (subst (λ m. read_by new ≤ m + most_waiting) (sym g.taken) (short_few new g.ready.short));
  reads = g.reads;
}

-- where the next token is known nothing is read
pub same_read : (s new : Scanner) → IsRead s → knows s ≡ true → ReadsNeeded s new
    → read_by new ≡ read_by s
same_read s new i known r = elim (cases_lt (read_by s) (read_by new)) [
  | inl more ↦ absurd (true≢false (sym known ∙ knows_is s i ∙ r.needed (read_by s) (omega arith) more))
  | inr none ↦ omega (arith, none, r.further)
]

come_more : (ks : List Known) (k : Known) (a b c : Remaining) → a ≡ comes_behind ks b
    → b ≡ comes_behind (k ∷ []) c → a ≡ comes_behind (ks ++ k ∷ []) c
come_more ks k a b c first second = first ∙ ap (λ (r : Remaining). comes_behind ks r) second ∙ ap (λ ts. both ts c.fault) (sym (tokens_more ks k c.tokens))

-- one more is taken, that is known
pub gives_more : (old s new : Scanner) (ks : List Known) (k : Known) → Gives old s ks
    → knows s ≡ true → GivesOne s new k → Gives old new (ks ++ k ∷ [])
gives_more old s new ks k g known one =
    let same = same_read s new g.ready.read known one.reads in
    record {
      ready = one.ready;
      stream = one.stream ∙ g.stream;
      come = come_more ks k (to_come old) (to_come s) (to_come new) g.come one.come;
      last = taken_more ks k (taken_by old) ∙ one.taken;
      few = omega (arith, same, g.few);
      later = subst (λ m. All (λ (x : Known). m ≤ x.taken + most_waiting) (ks ++ k ∷ [])) (sym same)
          (All-append (λ (x : Known). read_by s ≤ x.taken + most_waiting) ks (k ∷ []) g.later
          (one_later (λ (x : Known). read_by s ≤ x.taken + most_waiting) k (subst (λ m. m ≤ k.taken + most_waiting) same (subst (λ m. read_by new ≤ m + most_waiting) (sym one.taken) (short_few new one.ready.short)))));
      reads = record {
        read = one.ready.read;
        further = omega (arith, same, g.reads.further);
        needed = λ n low high. g.reads.needed n low (omega (arith, same, high));
      };
    }

-- or it is refused: memory ran out
only_memory : (r : Remaining) (f : Fault) → (r.tokens ≡ [] → ⊥) → IsRefused r f
    → f ≡ memory_fault OfScanner
only_memory r f some (inl is) = is
only_memory r f some (inr (none, fault)) = absurd (some none)

tokens_left : (n : ℕ) (ts : List Token) → n < length ts → ts ≡ [] → ⊥
tokens_left n [] low e = omega (arith, low)
tokens_left n (t ∷ ts) low e = cc

pub some_left : (s : Scanner) → IsRead s → knows s ≡ true → (to_come s).tokens ≡ [] → ⊥
some_left s i known = tokens_left _ (to_come s).tokens (ltb-true _ _ (sym (tells s i).is ∙ known))

more_before : (ks : List Known) (r : Remaining) → HasMore r.tokens r.fault
    → HasMore (comes_behind ks r).tokens (comes_behind ks r).fault
more_before [] r more = more
more_before (k ∷ ks) r more = tt

pub fails_more : (old s : Scanner) (ks : List Known) (f : Fault) → Gives old s ks → knows s ≡ true
    → Fails s f → Fails old f
fails_more old s ks f g known x = record {
  more = subst (λ (r : Remaining). HasMore r.tokens r.fault) (sym g.come) (more_before ks (to_come s) x.more);
  told = inl (only_memory (to_come s) f (some_left s g.ready.read known) x.told);
}

-- ---- the loop

none_empty : (ks : List Known) (k : Known) → ks ++ k ∷ [] ≡ [] → ⊥
none_empty [] k e = cc
none_empty (x ∷ ks) k e = cc

pub fewer_left : (s new : Scanner) (k : Known) → GivesOne s new k
    → length (to_come new).tokens < length (to_come s).tokens
fewer_left s new k g = omega (arith, ap (λ (r : Remaining). length r.tokens) g.come)

-- where none is to come and nothing may be read, none is taken
pub gives_none : (s : Scanner) → IsReady s → knows s ≡ false → s.ended ≡ true → GivesAll s s []
unfolding taken_behind
gives_none s r none over = record {
  gives = record {
    ready = r;
    stream = refl;
    come = refl;
    last = refl;
    few = short_few s r.short;
    later = All-nil (λ (x : Known). read_by s ≤ x.taken + most_waiting);
    reads = record { read = r.read; further = omega arith; needed = λ n low high. absurd (omega (arith, low, high)) };
  };
  idle = none;
  some = λ e. elim r.read [ inl g ↦ absurd (true≢false (sym over ∙ g.going)) | inr o ↦ over_nothing s o none ];
}

-- where more may be read, more is to come
pub more_there : (s : Scanner) → IsReady s → s.ended ≡ false
    → HasMore (to_come s).tokens (to_come s).fault
more_there s r going = elim r.read [ inl g ↦ going_has_more s g | inr o ↦ absurd (true≢false (sym o.over ∙ going)) ]

-- what `may_read_on` says
pub goes_on : (b e : Bool) → b ≡ not e → b ≡ true → e ≡ false
goes_on b false is on = refl
goes_on b true is on = cc

pub goes_no_more : (b e : Bool) → b ≡ not e → b ≡ false → e ≡ true
goes_no_more b true is off = refl
goes_no_more b false is off = cc

-- the queue after the first token, and after one more
pub starts_with : (old new : Scanner) (was is : List Known) (k : Known) → was ≡ []
    → is ≡ was ++ k ∷ [] → GivesOne old new k → Gives old new is
starts_with old new was is k none more g = rw (more, none) (gives_first old new k g)

pub goes_with : (old s new : Scanner) (was is : List Known) (k : Known) → Gives old s was
    → knows s ≡ true → is ≡ was ++ k ∷ [] → GivesOne s new k → Gives old new is
goes_with old s new was is k g known more one = rw more (gives_more old s new was k g known one)

pub some_with : (was is : List Known) (k : Known) → is ≡ was ++ k ∷ [] → is ≡ [] → ⊥
some_with was is k more none = none_empty was k (sym more ∙ none)
