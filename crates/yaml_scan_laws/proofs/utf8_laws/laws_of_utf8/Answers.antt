use Rattle.yaml_scan_laws.proofs.Characters.{characters_begin}
use Rattle.yaml_scan_laws.proofs.TokensUtf8.{remaining_sound}
use Rattle.yaml_scan_laws.proofs.Decoded.{spelled_has_none, spelled_utf8}
use Rattle.yaml_scan_laws.proofs.utf8_laws.laws_of_utf8.Goals as goal

pub returns-clause-tokens_have_utf8 : goal.returns-clause-tokens_have_utf8
returns-clause-tokens_have_utf8 c = remaining_sound

pub returns-clause-text_is_utf8 : goal.returns-clause-text_is_utf8
returns-clause-text_is_utf8 c = spelled_utf8

pub returns-clause-characters_are_whole : goal.returns-clause-characters_are_whole
returns-clause-characters_are_whole c = characters_begin

pub returns-clause-text_has_no_nul : goal.returns-clause-text_has_no_nul
returns-clause-text_has_no_nul c = spelled_has_none
