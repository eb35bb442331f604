-- Pieces one after another, and what is in for what was written.
use Rattle.std.proofs.Common.{◌≡◌, suc, ◌+◌, List, [], ◌∷◌, ◌++◌, length, refl, sym, ap, ◌∙◌, arith, append_assoc, append-nil, length-append, map}
use Rattle.yaml_round_laws.proofs.Words.{Encoding, Settings, Item, letter, deep, char_bytes, encode, Event, let_out, laid, Stand, first_stand, added, whole, LeadsToStand, joined, Cuts, no_piece, CuttingsAreWholes, CutsAreThere, FrontsAreShown, StandInsStand}
use Rattle.yaml_round_laws.specs.Pieces.{piece}
use Rattle.yaml_round_laws.proofs.Leading.{there}

encode_both : (x : Encoding) (s t : List Item) → encode x (s ++ t) ≡ encode x s ++ encode x t
unfolding encode
encode_both x [] t = refl
encode_both x (letter c ∷ s) t = ap (λ z. char_bytes x c ++ z) (encode_both x s t) ∙ sym (append_assoc (char_bytes x c) (encode x s) (encode x t))
encode_both x (deep ∷ s) t = encode_both x s t

joined_bytes : (x : Encoding) (texts : List (List Item))
    → joined (map (encode x) texts) ≡ encode x (joined texts)
unfolding joined encode
joined_bytes x [] = refl
joined_bytes x (t ∷ texts) = ap (λ z. encode x t ++ z) (joined_bytes x texts) ∙ sym (encode_both x t (joined texts))

-- a text that something is after, and that is the same without it
no_more : (xs ys : List Item) → xs ≡ xs ++ ys → ys ≡ []
no_more xs [] h = refl
no_more xs (y ∷ ys) h =
    let k : length xs ≡ length xs + suc (length ys) = ap length h ∙ length-append xs (y ∷ ys) in
    absurd (omega arith)

-- of one piece, and those after it
one_more : (s : Settings) (a b : Stand) (es more : List Event) (texts : List Item)
    → LeadsToStand s a es b
    → texts ≡ added s b more → added s a es ++ texts ≡ added s a (es ++ more)
one_more s a b es more texts l h = ap (λ z. added s a es ++ z) h ∙ sym (l.texts more)

joined_texts : (s : Settings) (a : Stand) (pieces : List (List Event)) (texts : List (List Item))
    → Cuts s a pieces texts → added s a [] ≡ [] → joined texts ≡ added s a (joined pieces)
unfolding joined
joined_texts s _ _ _ (no_piece a) h = sym h
joined_texts s _ _ _ (piece a b es pieces texts l k) h = one_more s a b es (joined pieces) (joined texts) l (joined_texts s b pieces texts k (no_more (added s a es) (added s b []) (sym (ap (added s a) (append-nil es)) ∙ l.texts [])))

first_waits : (s : Settings) → added s first_stand [] ≡ []
unfolding let_out laid
first_waits s = refl

pub cut : CuttingsAreWholes
cut s pieces texts k =
    let h : joined texts ≡ added s first_stand (joined pieces) = joined_texts s first_stand pieces texts k (first_waits s) in
    (h, λ x. joined_bytes x texts ∙ ap (encode x) h)

pub cuts : CutsAreThere
cuts s a [] = ([], no_piece a)
cuts s a (es ∷ pieces) =
    let l = there s a es in
    let k = cuts s l.0 pieces in
    (added s a es ∷ k.0, piece a l.0 es pieces k.0 l.1.0 k.1)

pub shown : FrontsAreShown
shown s es more =
    let l = there s first_stand es in
    (added s l.0 more, l.1.0.texts more)

pub stands : StandInsStand
stands s es others a b l m k more = (added s a more, (l.texts more, m.texts more ∙ ap (λ z. whole s others ++ z) (sym (k more))))
