-- The classes of bytes in names and URIs.
unfoldable pub use Rattle.yaml_scan_types.specs.Classes.{is_alpha_byte, is_digit_byte}
unfoldable pub use Rattle.yaml_scan_history.specs.Uris.{is_punctuation, is_wide_punctuation}
pub use Rattle.yaml_scan_history.specs.Written.{is_kept}
