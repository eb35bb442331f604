-- Tokens of pretty text say what events do.
use Rattle.std.proofs.Common.{List, map, sym, ap, ◌∙◌}
use Rattle.yaml_round_content.proofs.PrettyWords.{EventBody, Event, parsed_of, PrettyTokensSayDocuments}
use Rattle.yaml_round_content.proofs.Contents.{says, content, contents_said, contents_by, stream_same}
use Rattle.yaml_round_content.proofs.PrettyDocuments.{tokens_parsed}

pub tokens_say : PrettyTokensSayDocuments
tokens_say s es x y ds same flags fine some ts e =
    let (events, ending) = tokens_parsed s y ds fine some ts e in
    (contents_by (parsed_of ts).events ∙ ap (λ (bs : List EventBody). map content bs) events ∙ stream_same s x y ds flags fine ∙ sym (ap (λ (fs : List Event). map says fs) same) ∙ sym (contents_said es), ending)
