use Rattle.std.proofs.Common.{ℕ, List, Bool, true, pos, suc, subst, ap, ◌∙◌, arith, set}
use Rattle.yaml_round_documents.specs.Ranks.{IsDue, shape_of}
use Rattle.yaml_round_documents.specs.Shapes.{list_of}
use Rattle.yaml_round_documents.proofs.Labels.{node_ranked}
use Rattle.yaml_round_documents.proofs.ranks.Ranks.rank_node.Goals as goal

pub returns : goal.returns
returns c =
    let nodes = c.args.document.now.nodes in
    let table = c.args.self.now.table.items in
    let D : Bool → Type 0 = λ b. IsDue nodes c.deref.result.now c.args.at b in
    let T : List ℕ → Type 0 = λ t. IsDue nodes t c.args.at true in
    let due = subst T c.deref.ensures.value (subst D c.if-not-is_due.false c.is_due.ensures) in
    node_ranked nodes table _ c.args.self.now.shapes c.rank_of_shape.new.self.shapes c.args.at c.in_ok-rank.rank c.args.self.now.given c.rank_of_shape.new.self.given (list_of c.put_shape.new.room) c.requires.ranking (omega arith) due.0 due.1 (c.in_ok-put_shape.ensures ∙ ap (λ t. shape_of t nodes (pos (suc c.args.at))) c.deref-2.ensures.value) c.in_ok-rank.ensures.gives (ap (λ v. set v.items c.args.at c.in_ok-rank.rank) c.in_ok-rank.ensures.table)
