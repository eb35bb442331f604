-- What follows from the definition of where two inputs differ.
use Rattle.std.specs.Prelude.{◌≡◌, ℕ, Bool, true, false, List, Some, None, Ok}
use Rattle.yaml_round.specs.declared.yaml_encoding_t.{yaml_encoding_t}
use Rattle.yaml_round.specs.declared.yaml_difference_t.{yaml_difference_t}
use Rattle.yaml_round.specs.declared.yaml_cause_t.{yaml_cause_t}
use Rattle.yaml_round.specs.declared.yaml_cause_t.TheVariants.{OnlyFirst, OnlySecond, Kind, Directives, Value, Tag, Quotes, Anchor}
use Rattle.yaml_round_engine.specs.Answers.{IsCompared}
use Rattle.yaml_round_engine.specs.Places.{path_of}
use Rattle.yaml_round_engine.specs.Differences.{IsDiff, IsParting}
use Rattle.yaml_round_engine.specs.Loaded.{IsDocumentsDiff, IsDocumentsParting}

-- with the path, the marks, the kinds and the cause of the other
pub record TellTheSame (d e : yaml_difference_t) : Type 0 where
  pub path : path_of d ≡ path_of e
  pub first_mark : d.first_mark ≡ e.first_mark
  pub first_end : d.first_end ≡ e.first_end
  pub first_type : d.first_type ≡ e.first_type
  pub second_mark : d.second_mark ≡ e.second_mark
  pub second_end : d.second_end ≡ e.second_end
  pub second_type : d.second_type ≡ e.second_type
  pub cause : d.cause ≡ e.cause

abbrev pub turned_cause : yaml_cause_t → yaml_cause_t
turned_cause OnlyFirst = OnlySecond
turned_cause OnlySecond = OnlyFirst
turned_cause Kind = Kind
turned_cause Directives = Directives
turned_cause Value = Value
turned_cause Tag = Tag
turned_cause Quotes = Quotes
turned_cause Anchor = Anchor

-- the same with the sides turned
abbrev pub turned : yaml_difference_t → yaml_difference_t
turned d = record d {
  first_mark = d.second_mark;
  first_end = d.second_end;
  first_type = d.second_type;
  second_mark = d.first_mark;
  second_end = d.first_end;
  second_type = d.first_type;
  cause = turned_cause d.cause;
}

-- `yaml_diff` answers nothing exactly where `yaml_same` answers true. It has one answer, whichever input comes first.
pub record DiffsAgree : Type 0 where
  pub either : (a_from b_from : yaml_encoding_t) (a b : List ℕ)
      → IsDiff a_from a b_from b (Ok None) → IsDiff b_from b a_from a (Ok None)
  pub nothing : (a_from b_from : yaml_encoding_t) (a b : List ℕ) (same : Bool)
      → IsCompared a_from a b_from b same → IsDiff a_from a b_from b (Ok None) → same ≡ true
  pub something : (a_from b_from : yaml_encoding_t) (a b : List ℕ) (same : Bool)
      (d : yaml_difference_t) → IsCompared a_from a b_from b same
      → IsDiff a_from a b_from b (Ok (Some d)) → same ≡ false
  pub again : (a_from b_from : yaml_encoding_t) (a b : List ℕ) (d e : yaml_difference_t)
      → IsParting a_from a b_from b d → IsParting a_from a b_from b e → TellTheSame d e
  pub turned : (a_from b_from : yaml_encoding_t) (a b : List ℕ) (d e : yaml_difference_t)
      → IsParting a_from a b_from b d → IsParting b_from b a_from a e
      → TellTheSame d (turned e)

-- `yaml_diff_documents` has one answer, too, whichever input comes first.
pub record DocumentDiffsAgree : Type 0 where
  pub either : (a_from b_from : yaml_encoding_t) (a b : List ℕ)
      → IsDocumentsDiff a_from a b_from b (Ok None) → IsDocumentsDiff b_from b a_from a (Ok None)
  pub not_both : (a_from b_from : yaml_encoding_t) (a b : List ℕ) (d : yaml_difference_t)
      → IsDocumentsDiff a_from a b_from b (Ok None)
      → IsDocumentsDiff a_from a b_from b (Ok (Some d)) → ⊥
  pub again : (a_from b_from : yaml_encoding_t) (a b : List ℕ) (d e : yaml_difference_t)
      → IsDocumentsParting a_from a b_from b d → IsDocumentsParting a_from a b_from b e
      → TellTheSame d e
  pub turned : (a_from b_from : yaml_encoding_t) (a b : List ℕ) (d e : yaml_difference_t)
      → IsDocumentsParting a_from a b_from b d → IsDocumentsParting b_from b a_from a e
      → TellTheSame d (turned e)
