-- Tokens that close what is open have no fault, where no tag before them waits whose handle nothing defines.
use Rattle.std.proofs.Common.{◌≡◌, ◌⊎◌, ℕ, Bool, List, [], ◌∷◌, Option, Some, None, ◌∙◌, arith}
use Rattle.yaml_parse_laws_trees.proofs.Words.{yaml_mark_t, Token, TokenBody, Fault, Brackets, State, Stream, spell, closing, followed_by, directive_fault, handle_fault, undefined_handle, NodeTag, ended_tag, tag_behind, unless_joined, IsFree}
use Rattle.yaml_parse_model.specs.scan_types.Tokens as token
use Rattle.yaml_parse_laws_trees.proofs.Closing.{closer, closers}
use Rattle.yaml_parse_laws_trees.proofs.Properties.{tok}
use Rattle.yaml_parse_laws_trees.proofs.Tagging.{no_handle}
use Rattle.yaml_parse_laws_trees.proofs.Cuts.{followed_on}
use Rattle.yaml_parse_laws_trees.proofs.Clean.{Clean, no_fault, free, some_none}

-- ---- tokens that are neither properties nor directives

abbrev pub IsCalm : TokenBody → Type 0
IsCalm (token.anchor name) = ⊥
IsCalm (token.tag handle suffix) = ⊥
IsCalm (token.version_directive major minor) = ⊥
IsCalm (token.tag_directive handle prefix) = ⊥
IsCalm _ = Unit {0}

abbrev pub AreCalm : List Token → Type 0
AreCalm [] = Unit {0}
AreCalm (t ∷ ts) = IsCalm t.body × AreCalm ts

closing_calm : (b : Brackets) → IsCalm (closing b)
closing_calm b = grind arith

closer_calm : (m : yaml_mark_t) (x : State) (ts : List Token) → AreCalm ts
    → AreCalm (closer m x ts)
closer_calm m x ts h = grind (arith, closing_calm)

pub closers_calm : (m : yaml_mark_t) (s : List State) → AreCalm (closers m s)
closers_calm m [] = tt
closers_calm m (x ∷ s) = closer_calm m x (closers m s) (closers_calm m s)

pub calm_ended : (b : TokenBody) (start end : yaml_mark_t) (past : List Token) (next : TokenBody)
    → IsCalm b → ended_tag (tok b start end ∷ past) next ≡ None
calm_ended b start end past next h = grind arith

calm_directive : (past : List Token) (b : TokenBody) (at : yaml_mark_t) → IsCalm b
    → directive_fault past b at ≡ None
calm_directive past b at h = grind arith

-- ---- no tag waits whose handle nothing defines

abbrev pub Quiet : List Token → Type 0
Quiet past = handle_fault past token.stream_end ≡ None

pub calm_quiet : (t : Token) (past : List Token) → IsCalm t.body → Quiet (t ∷ past)
calm_quiet t past h = no_handle (t ∷ past) token.stream_end (calm_ended t.body t.start_mark t.end_mark past token.stream_end h)

-- a token either is joined by nothing that waits, or meets it
abbrev MeetsAlike : Option NodeTag → Option NodeTag → Type 0
MeetsAlike o p = (o ≡ None) ⊎ (o ≡ p)

alike_joined : (handle : List ℕ) (at : yaml_mark_t) (b : TokenBody)
    → MeetsAlike (unless_joined handle at b) (unless_joined handle at token.stream_end)
alike_joined handle at b = grind arith

alike_behind : (handle : List ℕ) (at start end : yaml_mark_t) (c : TokenBody) (past : List Token)
    (b : TokenBody)
    → MeetsAlike (tag_behind handle at (tok c start end ∷ past) b)
    (tag_behind handle at (tok c start end ∷ past) token.stream_end)
alike_behind handle at start end c past b = grind (arith, alike_joined)

alike_tag : (handle : List ℕ) (at : yaml_mark_t) (past : List Token) (b : TokenBody)
    → MeetsAlike (tag_behind handle at past b) (tag_behind handle at past token.stream_end)
alike_tag handle at past b = grind (arith, alike_joined, alike_behind)

alike_last : (c : TokenBody) (start end : yaml_mark_t) (past : List Token) (b : TokenBody)
    → MeetsAlike (ended_tag (tok c start end ∷ past) b)
    (ended_tag (tok c start end ∷ past) token.stream_end)
alike_last c start end past b = grind (arith, alike_tag)

alike : (past : List Token) (b : TokenBody)
    → MeetsAlike (ended_tag past b) (ended_tag past token.stream_end)
alike past b = grind (arith, alike_last)

pub quiet_meets : (past : List Token) → Quiet past → (b : TokenBody) → handle_fault past b ≡ None
quiet_meets past q b = grind (arith, alike)

-- ---- calm tokens have no fault

pub calm_free : (us past : List Token) → AreCalm us → Quiet past → Clean past → (tree : Stream)
    → followed_by past us ≡ spell tree [] → IsFree (followed_by past us)
calm_free [] past c q k tree p = free past k
calm_free (u ∷ us) past c q k tree p =
    calm_free us (u ∷ past) c.1 (calm_quiet u past c.0) (no_fault past u (quiet_meets past q u.body) (record { tree = tree; more = us; same = followed_on past (u ∷ []) us ∙ p }) (calm_directive past u.body u.start_mark c.0), k) tree p

-- ---- after a tag alone one may wait that didn't before

abbrev pub IsTag : TokenBody → Type 0
IsTag (token.tag handle suffix) = Unit {0}
IsTag _ = ⊥

-- the handle is defined or not, wherever tag and node begin
same_handle : (b : Bool) (x y : NodeTag) (e : Fault) → undefined_handle b x ≡ None
    → undefined_handle b y ≡ Some e → ⊥
same_handle b x y e p q = grind (arith, some_none)

anchor_alone : (c : TokenBody) (start end : yaml_mark_t) (past : List Token) (name : List ℕ)
    (from to : yaml_mark_t) (e : Fault) → Quiet (tok c start end ∷ past)
    → handle_fault (tok (token.anchor name) from to ∷ tok c start end ∷ past) token.stream_end
    ≡ Some e → ⊥
anchor_alone c start end past name from to e q p = grind (arith, same_handle, some_none)

tag_last : (c : TokenBody) (start end : yaml_mark_t) (past : List Token) (e : Fault) → Quiet past
    → handle_fault (tok c start end ∷ past) token.stream_end ≡ Some e → IsTag c
tag_last c start end past e q p = grind (arith, some_none, anchor_alone)

pub tag_waits : (t : Token) (past : List Token) (e : Fault) → Quiet past
    → handle_fault (t ∷ past) token.stream_end ≡ Some e → IsTag t.body
tag_waits t past e q p = tag_last t.body t.start_mark t.end_mark past e q p

-- a tag without a handle is in order
pub bare_quiet : (past : List Token) (start end : yaml_mark_t)
    → Quiet (tok (token.tag [] []) start end ∷ past)
bare_quiet past start end = grind arith
