-- The texts of the token that was taken last are those that its lexeme carries.
use Rattle.std.proofs.Common.{◌≡◌, ℕ, inl, inr, List, refl}
use Rattle.yaml_scan_model.specs.scan_types.Tokens.{TokenBody}
use Rattle.yaml_scan_history.specs.Remaining.{SpelledText}
use Rattle.yaml_scan_model.specs.Texts.{AreTextsOf}
use Rattle.yaml_scan_model.specs.declared.kind.Kind.{Kind}
use Rattle.yaml_scan_model.specs.declared.kind.Kind.TheVariants as kinds
use Rattle.yaml_scan_core.specs.declared.lexeme.Lexeme.{Lexeme}
use Rattle.yaml_scan_core.specs.declared.scanner.Scanner.{Scanner}
use Rattle.yaml_scan_core.specs.Asked.{HasTaken, last_lexeme, store_in}
use Rattle.yaml_scan_core.specs.Scanning.{stream_of}
use Rattle.yaml_scan_core.specs.Shown.{Carries, HoldsValue, Store}
use Rattle.yaml_scan_core.specs.Told.{texts_as, texts_of, value_in}

-- a value that a lexeme holds
pub value_held : (o : Store) (x : Lexeme) (v : List ℕ) → HoldsValue o x v → value_in o x ≡ v
value_held o x v (inl (a, h)) = rw h.noted h.second.are
value_held o x v (inr h) = rw h.plain h.are

texts_carried : (k : Kind) (o : Store) (t : SpelledText) (x : Lexeme) (b : TokenBody)
    → Carries o t x k b → AreTextsOf b (texts_as k o t x)
texts_carried kinds.StreamStart o t x b (bare, is) = rw is refl
texts_carried kinds.VersionDirective o t x b (m, n, h, is, small) = rw (is, h.first.are, h.second.are) (refl, refl)
texts_carried kinds.TagDirective o t x b (m, n, h, is, good) = rw is (h.first.are, h.second.are)
texts_carried kinds.BadPrefix o t x b (m, n, h, is, good) = rw is (h.first.are, h.second.are)
texts_carried kinds.Tag o t x b (m, n, h, is, good) = rw is (h.first.are, h.second.are)
texts_carried kinds.BadTag o t x b (m, n, h, is, good) = rw is (h.first.are, h.second.are)
texts_carried kinds.Alias o t x b (v, h, is) = rw is (value_held o x v h)
texts_carried kinds.Anchor o t x b (v, h, is) = rw is (value_held o x v h)
texts_carried kinds.Scalar o t x b (v, h, is) = rw is (value_held o x v h)
texts_carried kinds.Key o t x b (bare, is, free) = rw is tt
texts_carried kinds.Failed o t x b c = absurd c
texts_carried kinds.Nothing o t x b c = absurd c
texts_carried kinds.BlockSequenceStart o t x b c = absurd c
texts_carried kinds.BlockMappingStart o t x b c = absurd c
texts_carried kinds.BlockEnd o t x b c = absurd c
texts_carried kinds.StreamEnd o t x b (bare, is) = rw is tt
texts_carried kinds.DocumentStart o t x b (bare, is) = rw is tt
texts_carried kinds.DocumentEnd o t x b (bare, is) = rw is tt
texts_carried kinds.FlowSequenceStart o t x b (bare, is) = rw is tt
texts_carried kinds.FlowSequenceEnd o t x b (bare, is) = rw is tt
texts_carried kinds.FlowMappingStart o t x b (bare, is) = rw is tt
texts_carried kinds.FlowMappingEnd o t x b (bare, is) = rw is tt
texts_carried kinds.BlockEntry o t x b (bare, is) = rw is tt
texts_carried kinds.FlowEntry o t x b (bare, is) = rw is tt
texts_carried kinds.Value o t x b (bare, is) = rw is tt

-- the texts of the token that was taken last are given
pub texts_are : (s : Scanner) (b : TokenBody) → HasTaken s b → AreTextsOf b (texts_of s)
texts_are s b h = texts_carried (last_lexeme s).kind (store_in s) (stream_of s) (last_lexeme s) b h.carries
