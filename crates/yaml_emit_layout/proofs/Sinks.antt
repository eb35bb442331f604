-- Laws of what an output owes.
use Rattle.std.proofs.Common.{◌≡◌, ◌≢◌, ℕ, ◌+◌, ◌-◌, ◌≤◌, List, [], ◌∷◌, ◌++◌, length, drop, Bool, true, false, cond, refl, sym, subst, ◌∙◌, ap, append_assoc, arith, length-append}
use Rattle.std.specs.Prelude.{take, zero, suc, replicate}
use Rattle.yaml_emit_layout.specs.declared.settings.Encoding.TheVariants.{Utf8}
use Rattle.std.proofs.lemmas.List.{append-nil, take-append-drop, take-append-le, take-take}
use Rattle.std.proofs.Math.Seq.{take-length, take-append_seam}
use Rattle.std.proofs.lemmas.Bool.{cond-true, cond-false}
use Rattle.yaml_emit_layout.specs.declared.cursor.Cursor.{Cursor}
use Rattle.yaml_emit_layout.specs.declared.cursor.Status.{Status}
use Rattle.yaml_emit_layout.specs.declared.cursor.Status.TheVariants.{Going, Full, Deep, Starved}
use Rattle.yaml_emit_layout.specs.declared.settings.Encoding.{Encoding}
use Rattle.yaml_emit_layout.specs.Text.{Item, letter, deep, encode, char_bytes, is_deep, shallow}
use Rattle.yaml_emit_layout.specs.Layout.{Layout, Rest, ◌▹◌, stay, char, letters, blanks, too_deep}
use Rattle.yaml_emit_layout.specs.Appends.{AppendsBy, blanked}
use Rattle.yaml_emit_layout.specs.Sink.{Output, Grows, Ends, EndsBy, Owes, Puts}

-- nothing is taken back
pub grows_none : (xs : List ℕ) → Grows xs xs
grows_none xs = take-length xs

pub grows_by : (xs ys more : List ℕ) → ys ≡ xs ++ more → Grows xs ys
grows_by xs ys more e = ap (take (length xs)) e ∙ take-append_seam xs more

pub grows_same : (xs ys : List ℕ) → ys ≡ xs → Grows xs ys
grows_same xs ys e = ap (take (length xs)) e ∙ take-length xs

-- what came
pub grows_rest : (xs ys : List ℕ) → Grows xs ys → ys ≡ xs ++ drop (length xs) ys
grows_rest xs ys g = sym (take-append-drop (length xs) ys) ∙ ap (λ (t : List ℕ). t ++ drop (length xs) ys) g

-- Growing is transitive.
pub grows_both : (xs ys zs : List ℕ) → Grows xs ys → Grows ys zs → Grows xs zs
grows_both xs ys zs p q =
    let first : List ℕ = drop (length xs) ys in
    let second : List ℕ = drop (length ys) zs in
    grows_by xs zs (first ++ second) (grows_rest ys zs q ∙ (ap (λ (t : List ℕ). t ++ second) (grows_rest xs ys p) ∙ append_assoc xs first second))

appends_grows : (s : Status) (limit : ℕ) (old new bytes : List ℕ) → AppendsBy s limit old new bytes
    → Grows old new
appends_grows Going limit old new bytes a = grows_by old new bytes a.0
appends_grows Full limit old new bytes a =
    ap (take (length old)) a.0 ∙ (take-take (length old) limit (old ++ bytes) a.1.1 ∙ take-append_seam old bytes)
appends_grows Deep limit old new bytes a = absurd a
appends_grows Starved limit old new bytes a = grows_same old new a

-- a sink that has stopped takes every text
ends_stopped : (s : Status) (limit : ℕ) (x : Encoding) (output : List ℕ) (t u whole : List Item)
    → s ≢ Going → EndsBy s limit x output t whole → EndsBy s limit x output u whole
ends_stopped Going limit x output t u whole n h = absurd (n refl)
ends_stopped Full limit x output t u whole n h = h
ends_stopped Deep limit x output t u whole n h = h
ends_stopped Starved limit x output t u whole n h = h

pub ends_other : (a : Output) (t u whole : List Item) → a.status ≢ Going → Ends a t whole
    → Ends a u whole
unfolding Ends
ends_other a t u whole n h = ends_stopped a.status a.limit a.encoding a.bytes t u whole n h

-- Where nothing was put the same is owed.
pub owes_same : (a : Output) (x : Layout) → Owes a a x x
owes_same a x = record { ends = λ rest whole h. h; encoding = refl; limit = refl; going = λ g. g; stays = λ n. refl; grows = grows_none a.bytes }

pub puts_nothing : (a : Output) → Puts a a stay
puts_nothing a = owes_same a stay

pub puts_stopped : (a : Output) (x : Layout) → a.status ≢ Going → Puts a a x
puts_stopped a x n = record { ends = λ rest whole h. ends_other a _ _ whole n h; encoding = refl; limit = refl; going = λ g. g; stays = λ n. refl; grows = grows_none a.bytes }

-- Owing is transitive.
pub owes_then : (a b c : Output) (x y z : Layout) → Owes a b x y → Owes b c y z → Owes a c x z
owes_then a b c x y z p q = record {
  ends = λ rest whole h. q.ends rest whole (p.ends rest whole h);
  encoding = q.encoding ∙ p.encoding;
  limit = q.limit ∙ p.limit;
  going = λ g. p.going (q.going g);
  stays = λ n. q.stays (λ g. n (p.going g)) ∙ p.stays n;
  grows = grows_both a.bytes b.bytes c.bytes p.grows q.grows;
}

-- what is owed is owed in other words at the cursor
pub owes_as : (a b : Output) (x y z : Layout)
    → ((rest : Rest) → x a.cursor rest ≡ (y ▹ z) a.cursor rest) → Puts a b y → Owes a b x z
owes_as a b x y z e p = record {
  ends = λ rest whole h. let P : List Item → Type 0 = λ t. Ends a t whole in p.ends (λ d. z d rest) whole (subst P (e rest) h);
  encoding = p.encoding;
  limit = p.limit;
  going = p.going;
  stays = p.stays;
  grows = p.grows;
}

-- a layout that is another at the cursor
pub puts_as : (a b : Output) (x y : Layout) → ((rest : Rest) → y a.cursor rest ≡ x a.cursor rest)
    → Puts a b x → Puts a b y
puts_as a b x y e p = owes_as a b y x stay e p

-- the cursor alone is moved
pub puts_moved : (a b : Output) (f : Cursor → Cursor) → b.bytes ≡ a.bytes → b.status ≡ a.status
    → b.encoding ≡ a.encoding → b.limit ≡ a.limit → b.cursor ≡ f a.cursor
    → Puts a b (λ c rest. rest (f c))
unfolding Ends
puts_moved a b f o s e l k = record {
  ends = λ rest whole h. rw (o, s, e, l, k) h;
  encoding = e;
  limit = l;
  going = λ g. sym s ∙ g;
  stays = λ _. s;
  grows = grows_same a.bytes b.bytes o;
}

-- a choice whose test holds
pub cond_true : {A : Type 0} (b : Bool) (x y : A) → b ≡ true → cond b x y ≡ x
cond_true b x y e = cond-true b x y e

-- a choice whose test has failed
pub cond_false : {A : Type 0} (b : Bool) (x y : A) → b ≡ false → cond b x y ≡ y
cond_false b x y e = cond-false b x y e

-- a text is those bytes and then `more`, and no place before `more` is too deep
pub record Leads (x : Encoding) (text more : List Item) (bytes : List ℕ) : Type 0 where
  pub all : encode x text ≡ bytes ++ encode x more
  pub deep : is_deep text ≡ is_deep more
  pub front : encode x (shallow text) ≡ bytes ++ encode x (shallow more)

-- what is appended was to come
appends_ends : (s : Status) (limit : ℕ) (x : Encoding) (old new bytes : List ℕ)
    (text more whole : List Item) → Leads x text more bytes
    → AppendsBy s limit old new bytes → EndsBy Going limit x old text whole
    → EndsBy s limit x new more whole
appends_ends Going limit x old new bytes text more whole l a e =
    (e.0 ∙ rw (a.0, append_assoc, l.all) refl, (a.1, (e.1.1.0 ∙ l.deep, e.1.1.1 ∙ rw (a.0, append_assoc, l.front) refl)))
appends_ends Full limit x old new bytes text more whole l a e =
    let longer : encode x whole ≡ (old ++ bytes) ++ encode x more = e.0 ∙ ap (λ t. old ++ t) l.all ∙ sym (append_assoc old bytes (encode x more)) in
    (rw (longer, take-append-le limit (old ++ bytes) (encode x more) (omega (arith, a.1.0))) a.0, rw longer (omega (arith, a.1.0, length-append (old ++ bytes) (encode x more))))
appends_ends Deep limit x old new bytes text more whole l a e = absurd a
appends_ends Starved limit x old new bytes text more whole l a e = (bytes ++ encode x more, rw a (e.0 ∙ ap (λ t. old ++ t) l.all))

pub status_cases : {P : Type 0} (s : Status) → (s ≡ Going → P) → (s ≢ Going → P) → P
status_cases Going p q = p refl
status_cases Full p q = q (λ e. cc)
status_cases Deep p q = q (λ e. cc)
status_cases Starved p q = q (λ e. cc)

-- a layout of those bytes was appended
pub puts_run : (a b : Output) (y : Layout) (bytes : List ℕ) (n : Cursor → Cursor) → a.status ≡ Going
    → b.encoding ≡ a.encoding → b.limit ≡ a.limit
    → ((rest : Rest) → Leads a.encoding (y a.cursor rest) (rest (n a.cursor)) bytes)
    → AppendsBy b.status a.limit a.bytes b.bytes bytes → (b.status ≡ Going → b.cursor ≡ n a.cursor)
    → Puts a b y
unfolding Ends
puts_run a b y bytes n g e l u h k = record {
  ends = λ rest whole w.
      let P : Status → Type 0 = λ s. EndsBy s a.limit a.encoding a.bytes (y a.cursor rest) whole in
      let back : Ends b (rest (n a.cursor)) whole = rw (e, l) (appends_ends b.status a.limit a.encoding a.bytes b.bytes bytes (y a.cursor rest) (rest (n a.cursor)) whole (u rest) h (subst P g w)) in
      let Q : Cursor → Type 0 = λ c. Ends b (rest c) whole in
      status_cases b.status (λ going. subst Q (sym (k going)) back) (λ stopped. ends_other b _ _ whole stopped back);
  encoding = e;
  limit = l;
  going = λ _. g;
  stays = λ n. absurd (n g);
  grows = appends_grows b.status a.limit a.bytes b.bytes bytes h;
}

-- the same, all of them for certain
pub puts_sure : (a b : Output) (y : Layout) (bytes : List ℕ) (n : Cursor → Cursor)
    → a.status ≡ Going → b.status ≡ a.status → b.encoding ≡ a.encoding → b.limit ≡ a.limit
    → ((rest : Rest) → Leads a.encoding (y a.cursor rest) (rest (n a.cursor)) bytes)
    → b.bytes ≡ a.bytes ++ bytes → length a.bytes + length bytes ≤ a.limit
    → b.cursor ≡ n a.cursor → Puts a b y
puts_sure a b y bytes n g t e l u o r k =
    let P : Status → Type 0 = λ z. AppendsBy z a.limit a.bytes b.bytes bytes in
    puts_run a b y bytes n g e l u (subst P (sym (t ∙ g)) (o, rw o (omega (arith, r, length-append a.bytes bytes)))) (λ _. k)

-- the cursor after a space and then some
pub stepped : ℕ → Cursor → Cursor
stepped zero c = c
stepped (suc n) c = stepped n (record { column = c.column + 1; white = true; bare = c.bare; kept = c.kept })

pub stepped_none : (c : Cursor) → stepped zero c ≡ c
unfolding stepped
stepped_none c = refl

pub stepped_is : (n : ℕ) (c : Cursor) → stepped (suc n) c ≡ blanked (suc n) c
unfolding stepped
stepped_is zero c = refl
stepped_is (suc n) c =
    let at : ℕ → Cursor = λ k. record { column = k; white = true; bare = c.bare; kept = c.kept } in
    let e : c.column + 1 + suc n ≡ c.column + suc (suc n) = omega arith in
    stepped_is n (at (c.column + 1)) ∙ ap at e

pub blanks_lead : (n : ℕ) (c : Cursor) (rest : Rest)
    → Leads Utf8 (blanks n c rest) (rest (stepped n c)) (replicate n 32)
unfolding encode char_bytes is_deep shallow blanks stepped
blanks_lead zero c rest = record { all = refl; deep = refl; front = refl }
blanks_lead (suc n) c rest =
    let l = blanks_lead n (record { column = c.column + 1; white = true; bare = c.bare; kept = c.kept }) rest in
    record { all = ap (λ (t : List ℕ). 32 ∷ t) l.all; deep = l.deep; front = ap (λ (t : List ℕ). 32 ∷ t) l.front }

-- what is before the first place that is too deep is a front
pub shallow_front : (x : Encoding) (t : List Item)
    → (rest : List ℕ) × (encode x t ≡ encode x (shallow t) ++ rest)
unfolding encode shallow
shallow_front x [] = ([], refl)
shallow_front x (letter c ∷ t) =
    let k = shallow_front x t in
    (k.0, ap (λ (z : List ℕ). char_bytes x c ++ z) k.1 ∙ sym (append_assoc (char_bytes x c) (encode x (shallow t)) k.0))
shallow_front x (deep ∷ t) = (encode x t, refl)

pub deep_written : (x : Encoding) (output : List ℕ) (whole : List Item)
    → output ≡ encode x (shallow whole) → (rest : List ℕ) × (encode x whole ≡ output ++ rest)
deep_written x output whole e = let k = shallow_front x whole in (k.0, k.1 ∙ ap (λ (z : List ℕ). z ++ k.0) (sym e))

-- what is written is the front of the whole
front_of : (status : Status) (limit : ℕ) (x : Encoding) (output : List ℕ) (text whole : List Item)
    → EndsBy status limit x output text whole → (rest : List ℕ) × (encode x whole ≡ output ++ rest)
front_of Going limit x output text whole h = (encode x text, h.0)
front_of Full limit x output text whole h = (drop limit (encode x whole), sym (take-append-drop limit (encode x whole)) ∙ ap (λ t. t ++ drop limit (encode x whole)) (sym h.0))
front_of Deep limit x output text whole h = deep_written x output whole h.1
front_of Starved limit x output text whole h = h

pub puts_starved : (a b : Output) (t : Layout) → b.bytes ≡ a.bytes → b.status ≡ Starved
    → a.status ≡ Going → b.encoding ≡ a.encoding → b.limit ≡ a.limit → Puts a b t
unfolding Ends
puts_starved a b t o s g e l = record {
  ends = λ rest whole h. rw (o, s, e) (front_of a.status a.limit a.encoding a.bytes _ whole h);
  encoding = e;
  limit = l;
  going = λ x. absurd (cc (sym s ∙ x));
  stays = λ n. absurd (n g);
  grows = grows_same a.bytes b.bytes o;
}

deep_front : (status : Status) (limit : ℕ) (x : Encoding) (output : List ℕ) (text whole : List Item)
    → status ≡ Going → EndsBy status limit x output (deep ∷ text) whole
    → (is_deep whole ≡ true) × (output ≡ encode x (shallow whole))
unfolding is_deep encode shallow
deep_front Going limit x output text whole g h = (h.1.1.0, sym (append-nil output) ∙ sym h.1.1.1)
deep_front Full limit x output text whole g h = absurd (cc g)
deep_front Deep limit x output text whole g h = absurd (cc g)
deep_front Starved limit x output text whole g h = absurd (cc g)

pub puts_deep : (a b : Output) → b.bytes ≡ a.bytes → b.status ≡ Deep → a.status ≡ Going
    → b.encoding ≡ a.encoding → b.limit ≡ a.limit → Puts a b too_deep
unfolding Ends
puts_deep a b o s g e l = record {
  ends = λ rest whole h. rw (o, s, e) (deep_front a.status a.limit a.encoding a.bytes _ whole g h);
  encoding = e;
  limit = l;
  going = λ x. absurd (cc (sym s ∙ x));
  stays = λ n. absurd (n g);
  grows = grows_same a.bytes b.bytes o;
}

-- texts of letters
pub letters_append : (xs ys : List ℕ) → letters (xs ++ ys) ≡ (letters xs ▹ letters ys)
unfolding letters
letters_append [] ys = refl
letters_append (x ∷ xs) ys = ap (λ t. char x ▹ t) (letters_append xs ys)
