-- The events of items that begin alike begin alike.
use Rattle.std.proofs.Common.{◌≡◌, ℕ, List, [], ◌∷◌, ◌++◌, Option, refl, ap, sym, subst}
use Rattle.yaml_parse_laws_trees.proofs.Words.{Fault, Event, RawEvent, Given, Directives, Settled, refused, gave, noted, settle, Reading, placed, read_on, reading, bare, told, BeginsWithEvents, EventsBeginAsItems}

head_same : (a b : RawEvent) (x y : List RawEvent) → a ∷ x ≡ b ∷ y → a ≡ b
head_same a b x y h = cc

tail_same : (a b : RawEvent) (x y : List RawEvent) → a ∷ x ≡ b ∷ y → x ≡ y
tail_same a b x y h = cc

not_empty : (a : RawEvent) (x : List RawEvent) → [] ≡ a ∷ x → ⊥
not_empty a x h = cc

-- one item more
one_more : (c : Settled) (i : RawEvent) (m n : ℕ) (k l : Directives → Reading)
    → ((ds : Directives) → BeginsWithEvents (told (k ds).events) (told (l ds).events))
    → BeginsWithEvents (told (read_on c i m k).events) (told (read_on c i n l).events)
one_more (refused e) i m n k l h = record { others = []; same = refl }
one_more (gave b ds) i m n k l h = let r : BeginsWithEvents (told (k ds).events) (told (l ds).events) = h ds in record { others = r.others; same = ap (λ (z : List Event). placed b i ∷ z) r.same }
one_more (noted ds) i m n k l h = h ds

begin_told : (gs hs : List Given) (others : List RawEvent) (f g : Option Fault) (ds : Directives)
    → bare hs ≡ bare gs ++ others
    → BeginsWithEvents (told (reading gs f ds).events) (told (reading hs g ds).events)
unfolding reading
begin_told [] hs others f g ds p = record { others = told (reading hs g ds).events; same = refl }
begin_told (x ∷ gs) [] others f g ds p = absurd (not_empty x.0 (bare gs ++ others) p)
begin_told (x ∷ gs) (y ∷ hs) others f g ds p =
    subst (λ (z : RawEvent). BeginsWithEvents (told (read_on (settle x.0 ds) x.0 x.1 (λ d. reading gs f d)).events) (told (read_on (settle z ds) z y.1 (λ d. reading hs g d)).events))
    (sym (head_same y.0 x.0 (bare hs) (bare gs ++ others) p))
    (one_more (settle x.0 ds) x.0 x.1 y.1 (λ d. reading gs f d) (λ d. reading hs g d) (λ d. begin_told gs hs others f g d (tail_same y.0 x.0 (bare hs) (bare gs ++ others) p)))

pub events_begin : EventsBeginAsItems
events_begin gs hs f g ds b = begin_told gs hs b.others f g ds b.same
