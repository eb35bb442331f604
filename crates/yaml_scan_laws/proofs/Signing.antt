-- Words of one byte, and the marks of documents and of the stream's end.
use Rattle.std.proofs.Common.{◌≡◌, ℕ, ◌+◌, ◌<◌, ◌==◌, ◌&&◌, nat_lt, cond, Bool, true, false, List, length, Option, Some, Ok, refl, ap, ◌∙◌, arith}
use Rattle.yaml_scan_laws.proofs.LevelWords.{nat_tests, and-false, byte, break_of, column_at, is_blank_or_end, TokenBody, is_document_start, is_document_end, Kind, indicator_of, or_plain, kind_at, lexeme_at, IsGap, Comes}
use Rattle.yaml_scan_history.specs.scan_types.Tokens as tokens
use Rattle.yaml_scan_history.specs.declared.kind.Kind.TheVariants as kinds
use Rattle.yaml_scan_laws.specs.Signs.{sign, SignComes, MarkComes, SignsCome, MarksCome, PrintedBegins, LevelIsOut}

-- ---- kinds

-- no `---` is where there is a byte that is no hyphen
pub no_start : (text : List ℕ) (p b : ℕ) → byte text p ≡ b → (b == 45) ≡ false
    → is_document_start text p ≡ false
unfolding is_document_start
no_start text p b h e = rw (h, e, and-false (column_at text p == 0)) refl

-- no `...` is where there is a byte that is no dot
pub no_end : (text : List ℕ) (p b : ℕ) → byte text p ≡ b → (b == 46) ≡ false
    → is_document_end text p ≡ false
unfolding is_document_end
no_end text p b h e = rw (h, e, and-false (column_at text p == 0)) refl

-- a test whose first part has failed
pub no_percent : (a b : Bool) → a ≡ false → (a && b) ≡ false
no_percent a b e = rw e refl

-- a lexeme is what its first byte shows, where it is neither the end nor a mark of directives and documents
pub chain : (z pc ds de s : Bool) (o : Option Kind) (k : Kind) → z ≡ false → pc ≡ false → ds ≡ false
    → de ≡ false → o ≡ Some k
    → cond z (Some kinds.StreamEnd) (cond pc (Some kinds.Directive)
    (cond ds (Some kinds.DocumentStart) (cond de (Some kinds.DocumentEnd) (or_plain o s)))) ≡ Some k
chain z pc ds de s o k a b c d e = rw (a, b, c, d, e) refl

kind_by : (flow : Bool) (text : List ℕ) (p b : ℕ) (k : Kind) → byte text p ≡ b → (b == 0) ≡ false
    → (b == 37) ≡ false → is_document_start text p ≡ false → is_document_end text p ≡ false
    → indicator_of flow (is_blank_or_end text (p + 1)) b ≡ Some k → kind_at flow text p ≡ Some k
unfolding kind_at
kind_by flow text p b k h z pc ds de o = rw (h, z, pc, ds, de, o) refl

-- ---- words of one byte

-- what is read of a word of one byte
abbrev IsRead : Kind → TokenBody → Type 0
IsRead k body = (flow : Bool) (level : ℕ) (text : List ℕ) (q : ℕ)
    → lexeme_at k flow level text q ≡ Ok (sign body (q + 1))

came : (text : List ℕ) (p d level b : ℕ) (k : Kind) (gap : List ℕ) (body : TokenBody)
    → IsRead k body
    → (b == 0) ≡ false → (b == 37) ≡ false → (b == 46) ≡ false
    → IsGap text p gap → let q = p + length gap in byte text q ≡ b → is_document_start text q ≡ false
    → indicator_of (nat_lt 0 d) (is_blank_or_end text (q + 1)) b ≡ Some k
    → Comes text p d level k gap (sign body (q + 1)) (q + 1)
came text p d level b k gap body read z pc dot g h start o =
    let q = p + length gap in
    record { behind = g; kind = kind_by (nat_lt 0 d) text q b k h z pc start (no_end text q b h dot) o; word = read (nat_lt 0 d) level text q; up = omega arith }

one_sign : (b : ℕ) (k : Kind) (body : TokenBody) → IsRead k body
    → ((flow alone : Bool) → indicator_of flow alone b ≡ Some k)
    → (b == 0) ≡ false → (b == 37) ≡ false → (b == 45) ≡ false → (b == 46) ≡ false → SignComes b k body
one_sign b k body read o z pc hyphen dot text p d level gap g h =
    came text p d level b k gap body read z pc dot g h (no_start text (p + length gap) b h hyphen) (o (nat_lt 0 d) (is_blank_or_end text (p + length gap + 1)))

-- one before white
one_mark : (b : ℕ) (k : Kind) (body : TokenBody) → IsRead k body
    → ((flow : Bool) → indicator_of flow true b ≡ Some k)
    → (b == 0) ≡ false → (b == 37) ≡ false → (b == 45) ≡ false → (b == 46) ≡ false → MarkComes b k body
one_mark b k body read o z pc hyphen dot text p d level gap g h alone =
    came text p d level b k gap body read z pc dot g h (no_start text (p + length gap) b h hyphen) (ap (λ a. indicator_of (nat_lt 0 d) a b) alone ∙ o (nat_lt 0 d))

-- after a hyphen before white there is no other
no_second : (text : List ℕ) (p : ℕ) → is_blank_or_end text (p + 1) ≡ true
    → is_document_start text p ≡ false
unfolding is_document_start
no_second text p alone =
    let e : (byte text (p + 1) == 45) ≡ false = unfold break_of in grind (arith, nat_tests) in
    rw (e, and-false (byte text p == 45), and-false (column_at text p == 0)) refl

entry_mark : MarkComes 45 kinds.BlockEntry tokens.block_entry
unfolding indicator_of lexeme_at
entry_mark text p d level gap g h alone =
    came text p d level 45 kinds.BlockEntry gap tokens.block_entry (λ f n t q. refl) refl refl refl g h (no_second text (p + length gap) alone) (rw alone refl)

question_alone : (flow : Bool) → indicator_of flow true 63 ≡ Some kinds.KeyMark
unfolding indicator_of
question_alone flow = grind (arith, nat_tests)

colon_alone : (flow : Bool) → indicator_of flow true 58 ≡ Some kinds.ValueMark
unfolding indicator_of
colon_alone flow = grind (arith, nat_tests)

pub signs_come : SignsCome
unfolding indicator_of lexeme_at
signs_come = record {
  sequence = one_sign 91 kinds.FlowSequenceStart tokens.flow_sequence_start (λ f n t q. refl) (λ f a. refl) refl refl refl refl;
  mapping = one_sign 123 kinds.FlowMappingStart tokens.flow_mapping_start (λ f n t q. refl) (λ f a. refl) refl refl refl refl;
  sequence_end = one_sign 93 kinds.FlowSequenceEnd tokens.flow_sequence_end (λ f n t q. refl) (λ f a. refl) refl refl refl refl;
  mapping_end = one_sign 125 kinds.FlowMappingEnd tokens.flow_mapping_end (λ f n t q. refl) (λ f a. refl) refl refl refl refl;
  comma = one_sign 44 kinds.FlowEntry tokens.flow_entry (λ f n t q. refl) (λ f a. refl) refl refl refl refl;
  entry = entry_mark;
  question = one_mark 63 kinds.KeyMark tokens.key (λ f n t q. refl) question_alone refl refl refl refl;
  colon = one_mark 58 kinds.ValueMark tokens.value (λ f n t q. refl) colon_alone refl refl refl refl;
}

-- ---- documents and the end

end_kind : (text : List ℕ) (p : ℕ) → byte text p ≡ 46 → is_document_end text p ≡ true
    → kind_at false text p ≡ Some kinds.DocumentEnd
unfolding kind_at
end_kind text p h e = rw (h, no_start text p 46 h refl, e) refl

pub marks_come : MarksCome
unfolding lexeme_at
marks_come = record {
  starts = λ text p level gap g h e. record { behind = g; kind = (unfold kind_at in rw (h, e) refl); word = refl; up = omega arith };
  ends = λ text p level gap g h e. record { behind = g; kind = end_kind text (p + length gap) h e; word = refl; up = omega arith };
  stops = λ text p level gap g h. record { behind = g; kind = (unfold kind_at in rw h refl); word = refl; up = omega arith };
}

calm : (b c d : ℕ) → 32 < b → b < 127 → nat_lt 0 (break_of b c d) ≡ false
unfolding break_of
calm b c d low high = grind (arith, nat_tests)

pub printed_begins : PrintedBegins
printed_begins text p b h low high hash = grind (arith, nat_tests, calm)

-- ---- levels

pub level_is_out : LevelIsOut
unfolding lexeme_at
level_is_out k flow n m text p e = grind (arith, nat_tests)
