-- A line comes first, and forgets the one before it.
use Rattle.std.proofs.Common.{◌≡◌, ℕ, true, false, true≢false, List, [], ◌∷◌, sym, arith}
use Rattle.yaml_emit_laws.proofs.Shared.{nat_tests, LineBreak, Layout, ◌▹◌, line, no_nodes, node, no_pairs, pair, Context, context_of, items_layout, pairs_layout, before_item, before_key, closer, end_layout, BlocksForgetColumns}
use Rattle.yaml_emit_layout.specs.ToCome.{Frame, items_left, pairs_left, value_left, frame_layout, frames_layout, layout, ending_layout}
use Rattle.yaml_emit_laws.specs.Forgetting.{is_block, are_block, Forgets}

line_forgets : (b : LineBreak) (n : ℕ) → Forgets (line b n)
unfolding line
line_forgets b n c d rest x y k = grind (arith, nat_tests)

frames_forget : (p : Context) (more : Layout) → Forgets more → (fs : List Frame)
    → are_block fs ≡ true → Forgets (frames_layout p fs ▹ more)
unfolding frames_layout frame_layout items_layout pairs_layout before_item before_key closer are_block is_block
frames_forget p more h [] w = h
frames_forget p more h (items_left true n fresh ns ∷ fs) w = absurd (true≢false (sym w))
frames_forget p more h (items_left false n fresh no_nodes ∷ fs) w = frames_forget p more h fs w
frames_forget p more h (items_left false n fresh (node x xs) ∷ fs) w = λ c d rest. line_forgets p.settings.line_break n c d _
frames_forget p more h (pairs_left true n fresh ps ∷ fs) w = absurd (true≢false (sym w))
frames_forget p more h (pairs_left false n fresh no_pairs ∷ fs) w = frames_forget p more h fs w
frames_forget p more h (pairs_left false n fresh (pair k v ps) ∷ fs) w = λ c d rest. line_forgets p.settings.line_break n c d _
frames_forget p more h (value_left flow n simple v ps ∷ fs) w = absurd (true≢false (sym w))

pub forget : BlocksForgetColumns
unfolding layout end_layout
forget s directives fs implicit ds w = frames_forget (context_of s directives) (ending_layout s implicit ds) (λ c d rest. line_forgets s.line_break 0 c d _) fs w
