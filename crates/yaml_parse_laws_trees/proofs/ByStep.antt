-- What a load gives, by the loader's steps: how it is proved.
use Rattle.std.proofs.Common.{◌≡◌, ◌⊎◌, ℕ, List, [], ◌∷◌, Option, Some, None}
use Rattle.yaml_parse_laws_trees.proofs.Words.{Fault, IsMemoryFault, Document, Told, ParserRemaining, Loading, LoadStep, goes_on, loaded, nothing_loaded, step, left_behind, AreFalling, load_layers, IsFinished, GivesDocument, GivesNoDocument}
use Rattle.yaml_parse_model.specs.Documents.{no_document}
use Rattle.yaml_parse_loader.specs.Loading.{refused}

-- What events come to that a loader is fed, and the fault after them: the document that ends first, the events that are
-- left and the number of tokens that are not asked for then; or the fault that comes first; or neither.
pub data Loads : Type 0 where
  document : Document → List Told → ℕ → Loads
  faulty : Fault → Loads
  nothing : Loads

abbrev pub load_on : LoadStep → (Loading → Loads) → List Told → ℕ → Loads
load_on (goes_on l) go rest left = go l
load_on (loaded d) go rest left = document d rest left
load_on (refused f) go rest left = faulty f

abbrev pub behind_all : Option Fault → Loads
behind_all None = nothing
behind_all (Some f) = faulty f

unfoldable pub loads : List Told → Option Fault → Loading → Loads
loads [] f l = behind_all f
loads (g ∷ gs) f l = load_on (step g.0 l) (loads gs f) gs g.1

-- How many tokens are not asked for when a load is refused: those that go with the event that a loader refuses, or with the
-- fault after all.
abbrev pub unasked_on : LoadStep → ℕ → (Loading → ℕ) → ℕ
unasked_on (goes_on l) left go = go l
unasked_on _ left go = left

unfoldable pub unasked_at_refusal : List Told → ℕ → Loading → ℕ
unasked_at_refusal [] behind l = behind
unasked_at_refusal (g ∷ gs) behind l = unasked_on (step g.0 l) g.1 (unasked_at_refusal gs behind)

-- of a parser's events to come
abbrev pub loads_of : ParserRemaining → Loads
loads_of c = loads c.events c.ending nothing_loaded

abbrev pub unasked_of : ParserRemaining → ℕ
unasked_of c = unasked_at_refusal c.events c.ending_unasked nothing_loaded

-- how many are not asked for as a load is answered, by the two numbers of a refusal and of the end
abbrev pub unasked_by : Loads → ℕ → ℕ → ℕ
unasked_by (document d rest n) refusal end = n
unasked_by (faulty f) refusal end = refusal
unasked_by nothing refusal end = end

abbrev pub answer_unasked : ParserRemaining → ℕ
answer_unasked c = unasked_by (loads_of c) (unasked_of c) (left_behind c.events c.unasked)

-- a load gives the next document with what is left, or the document without nodes where no document comes any more
abbrev pub LoadGives : Loads → Document → ParserRemaining → ParserRemaining → Type 0
LoadGives (document e left unasked) d old new = (d ≡ e) × GivesDocument left unasked old new
LoadGives nothing d old new = (d ≡ no_document) × GivesNoDocument old new
LoadGives (faulty f) d old new = ⊥

-- a load is refused by the fault that comes first, of the loader or of the parser, or when out of memory; nothing comes after it
pub record LoadRefuses (f : Fault) (old new : ParserRemaining) : Type 0 where
  pub finished : IsFinished new
  pub answered : new.answered ≡ f
  pub reason : IsMemoryFault load_layers f ⊎ (loads_of old ≡ faulty f)
  -- with that many tokens asked for
  pub unasked : IsMemoryFault load_layers f ⊎ (new.unasked ≡ unasked_of old)

-- what lasts while a loader is fed
pub record KeepsLoading (initial now : ParserRemaining) (l : Loading) : Type 0 where
  pub same : loads now.events now.ending l ≡ loads_of initial
  pub unasked : unasked_at_refusal now.events now.ending_unasked l ≡ unasked_of initial
  pub left : left_behind now.events now.unasked ≡ left_behind initial.events initial.unasked
  pub ending : now.ending ≡ initial.ending
  pub ending_unasked : now.ending_unasked ≡ initial.ending_unasked
  pub answered : now.answered ≡ initial.answered
  pub falls : AreFalling now.events now.ending_unasked
  pub none : initial.events ≡ [] → now.events ≡ []

-- ---- by events alone
