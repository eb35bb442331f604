-- Texts that a parser holds stay UTF-8.
use Rattle.std.proofs.Common.{◌≡◌, ◌∙◌, Bool, true, false, ℕ, List, [], ◌++◌, Some, None, option_map, Result, Ok, Err, OnOk, IsUtf8, refl, sym, ap, subst}
use Rattle.std.proofs.lemmas.Str.{IsUtf8-nil}
use Rattle.yaml_parse_model.specs.Source as source
use Rattle.yaml_parse_model.specs.Source.{front_of}
use Rattle.yaml_parse_model.specs.declared.yaml_mark_t.{yaml_mark_t}
use Rattle.yaml_parse_model.specs.declared.yaml_sequence_style_t.TheVariants.{YAML_BLOCK_SEQUENCE_STYLE}
use Rattle.yaml_parse_model.specs.scan_types.Tokens.{TokenBody, zero_mark}
use Rattle.yaml_parse_model.specs.Events.{Event, TagDirective}
use Rattle.yaml_parse_model.specs.Constructors.{HasUtf8, IsUtf8Option, AreUtf8}
use Rattle.yaml_scan_model.specs.declared.kind.Kind.TheVariants as token
use Rattle.yaml_scan_model.specs.Kinds.{IsOf}
use Rattle.yaml_scan_model.specs.Texts.{AreTextsOf, Texts}
use Rattle.yaml_scan_model.specs.declared.tokens.Tokens.{Ghosts}
use Rattle.yaml_scan_model.specs.Utf8.{IsUtf8Next}
use Rattle.yaml_parse_grammar.specs.Items as item
use Rattle.yaml_parse_grammar.specs.Resolve as resolve
use Rattle.yaml_parse_grammar.specs.Resolve.{Settled}
use Rattle.yaml_parse_grammar.proofs.Utf8.{IsUtf8Settled, settled_utf8}
use Rattle.yaml_parse_states.specs.declared.event.EventKind.{EventKind}
use Rattle.yaml_parse_states.specs.declared.event.EventKind.TheVariants as kind
use Rattle.yaml_parse_states.specs.declared.event.Slot.{Slot}
use Rattle.yaml_parse_states.specs.declared.parser.Parser.{Parser}
use Rattle.yaml_parse_states.specs.declared.parser.State.{State}
use Rattle.yaml_parse_states.specs.declared.parser.State.TheVariants as state
use Rattle.yaml_parse_states.specs.declared.parser.Turn.{Turn}
use Rattle.yaml_parse_states.specs.declared.parser.Turn.TheVariants as turn
use Rattle.yaml_parse_states.specs.Coming.{Coming}
use Rattle.yaml_parse_states.specs.Documents.{Noted, Settles}
use Rattle.yaml_parse_states.specs.Nodes.{prefix_for}
use Rattle.yaml_parse_states.specs.Views.{anchor_in, body_in, directives_of, event_in, tag_in, value_if}
use Rattle.yaml_parse_states.specs.Owned.{Stays}
use Rattle.yaml_parse_states.specs.Utf8.{IsUtf8After, IsUtf8Given, IsUtf8Held, IsUtf8In, IsUtf8Kept, IsUtf8Named, IsUtf8Noted, IsUtf8Told}
use Rattle.yaml_parse_states.proofs.Nodes.{resolved_by}
use Rattle.yaml_parse_states.proofs.Parts.{with_tokens}

-- a look at the next token
pub looked_named : {T P : Type 0} (g : Ghosts T P) (p : Parser T P) (t : T) → IsUtf8Named g p
    → (IsUtf8Next g p.tokens → source.HasUtf8 (front_of (g.to_come t)).body)
    → IsUtf8Named g (with_tokens p t)
looked_named g p t h k = record {
  kept = record { next = λ _. k h.kept.next; tags = h.kept.tags };
  anchor = h.anchor;
  tag = h.tag;
}

body_utf8 : {P : Type 0} (s : Slot P) (k : EventKind) (a t : List ℕ) (u : Texts)
    (ds : resolve.Directives)
    → IsUtf8Option (anchor_in s a) → IsUtf8Option (tag_in s t) → IsUtf8 (value_if s.has_value u.value)
    → AreUtf8 ds.tags → HasUtf8 (body_in (record s { kind = k }) a t u ds)
body_utf8 s kind.DocumentStart a t u ds ha ht hv hd = hd
body_utf8 s kind.Alias a t u ds ha ht hv hd = hv
body_utf8 s kind.Scalar a t u ds ha ht hv hd = (ha, ht, hv)
body_utf8 s kind.SequenceStart a t u ds ha ht hv hd = (ha, ht)
body_utf8 s kind.MappingStart a t u ds ha ht hv hd = (ha, ht)
body_utf8 s k a t u ds ha ht hv hd = tt

-- an event whose properties and value are
pub given_utf8 : {T P : Type 0} (g : Ghosts T P) (p : Parser T P) → IsUtf8Named g p
    → IsUtf8 (value_if p.event.has_value (g.texts p.tokens).value) → IsUtf8Given g p
given_utf8 g p h v = record {
  kept = h.kept;
  event = body_utf8 p.event p.event.kind p.anchor.items p.tag.items (g.texts p.tokens) (directives_of p.directives) h.anchor h.tag v h.kept.tags;
}

value_empty : (b : Bool) (x : List ℕ) → b ≡ false → IsUtf8 (value_if b x)
value_empty false x e = IsUtf8-nil
value_empty true x e = cc

pub given_valueless : {T P : Type 0} (g : Ghosts T P) (p : Parser T P) → IsUtf8Named g p
    → p.event.has_value ≡ false → IsUtf8Given g p
given_valueless g p h e = given_utf8 g p h (value_empty p.event.has_value _ e)

-- the token was taken
pub skipped_given : {T P : Type 0} (g : Ghosts T P) (p : Parser T P) (t : T) → IsUtf8Named g p
    → IsUtf8Next g t → p.event.has_value ≡ false → IsUtf8Given g (with_tokens p t)
skipped_given g p t h k e = given_valueless g (with_tokens p t) (record {
  kept = record { next = k; tags = h.kept.tags };
  anchor = h.anchor;
  tag = h.tag;
}) e

-- ---- tags and directives

prefix_utf8 : (tags : List TagDirective) (handle prefix suffix : List ℕ)
    → prefix_for tags handle ≡ Some prefix → AreUtf8 tags → IsUtf8 handle → IsUtf8 suffix
    → IsUtf8 (prefix ++ suffix)
prefix_utf8 tags handle prefix suffix e d h s =
    let ds : resolve.Directives = record { version = None; tags = tags } in
    let full : resolve.resolved tags handle suffix ≡ Some (prefix ++ suffix) =
    resolved_by tags handle suffix ∙ ap (option_map (λ (p : List ℕ). p ++ suffix)) e in
    (subst (λ o. IsUtf8Settled (resolve.with_resolved o None shape zero_mark zero_mark ds)) full
    (settled_utf8 (item.node None (Some tag) shape) zero_mark ds (tt, ((h, s), tt)) d)).0.1
  where
    shape : item.Shape
    shape = item.sequence YAML_BLOCK_SEQUENCE_STYLE

    tag : item.Tag
    tag = record { handle = handle; suffix = suffix; mark = zero_mark }

on_ok : {A E : Type 0} (r : Result A E) {P Q : Type 0} → (P → Q) → OnOk r P → OnOk r Q
on_ok (Ok a) f h = f h
on_ok (Err e) f h = tt

-- a prefix and then a suffix were put where there was nothing
pub put_utf8 : {A E : Type 0} (r : Result A E) (tags : List TagDirective)
    (handle prefix suffix none start text : List ℕ) → prefix_for tags handle ≡ Some prefix → none ≡ []
    → start ≡ none ++ prefix → OnOk r (text ≡ start ++ suffix)
    → OnOk r (AreUtf8 tags → IsUtf8 handle → IsUtf8 suffix → IsUtf8 text)
put_utf8 r tags handle prefix suffix none start text e n b h = on_ok r
    (λ w d x y. subst IsUtf8 (sym (w ∙ ap (λ z. z ++ suffix) (b ∙ ap (λ z. z ++ prefix) n))) (prefix_utf8 tags handle prefix suffix e d x y)) h

-- of a directive or tag that was taken
pub directive_texts : (b : TokenBody) (u : Texts) → IsOf token.TagDirective b → AreTextsOf b u
    → source.HasUtf8 b → IsUtf8 u.handle × IsUtf8 u.suffix
directive_texts b u is texts h =
    let t = subst (λ z. AreTextsOf z u) is texts in
    let k = subst source.HasUtf8 is h in
    (subst IsUtf8 (sym t.0) k.0, subst IsUtf8 (sym t.1) k.1)

-- a directive was noted that is UTF-8
pub settles_utf8 : {T P : Type 0} (g : Ghosts T P) (s : Settled) (old new : Parser T P) (r : Turn)
    → Settles g s old r new → IsUtf8Settled s
    → IsUtf8Next g old.tokens → IsUtf8Noted g r new
settles_utf8 g s old new turn.Given h u n = record {
  next = subst (λ (p : Parser _ _). IsUtf8Next g p.tokens) (sym h.1) n;
  tags = subst IsUtf8Settled h.0 u;
}
settles_utf8 g s old new r h u n = tt

pub noted_utf8 : {T P : Type 0} (g : Ghosts T P) (was : Coming) (from : yaml_mark_t) (r : Turn)
    (old new : Parser T P) → Noted g was from old r new → (r ≡ turn.Given → ⊥) → IsUtf8After g r new
noted_utf8 g was from turn.Given old new h n = absurd (n refl)
noted_utf8 g was from turn.Refused old new h n = tt
noted_utf8 g was from r old new h n = absurd h

-- ---- by states

pub held_in : (x : State) (kept : Type 0) → kept → IsUtf8In x kept
held_in state.End kept h = tt
held_in x kept h = h

held_by : {T P : Type 0} (g : Ghosts T P) (p : Parser T P) → IsUtf8Kept g p → IsUtf8Held g p
held_by g p h = held_in p.state (IsUtf8Kept g p) h

-- ---- events that were handed out

stays_kept : {T P : Type 0} (g : Ghosts T P) (mid new : Parser T P) → Stays g mid new
    → IsUtf8Kept g mid → IsUtf8Kept g new
stays_kept g mid new s h = record {
  next = λ t. subst (λ z. source.HasUtf8 (front_of z).body) (sym s.to_come) (h.next (s.told t));
  tags = subst (λ (p : Parser _ _). AreUtf8 (directives_of p.directives).tags) (sym s.same) h.tags;
}

in_kept : (x : State) (kept new : Type 0) → (kept → new) → IsUtf8In x kept → IsUtf8In x new
in_kept state.End kept new f h = tt
in_kept x kept new f h = f h

pub told_utf8 : {T P : Type 0} (g : Ghosts T P) (e : Event) (mid new : Parser T P)
    → IsUtf8Given g mid → Stays g mid new → e ≡ event_in g mid → IsUtf8Told g e new
told_utf8 g e mid new h s is = record {
  event = subst (λ (z : Event). HasUtf8 z.body) (sym is) h.event;
  held = held_by g new (stays_kept g mid new s h.kept);
}
