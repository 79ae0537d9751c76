use Rattle.std.proofs.Common.{◌≡◌, ◌∷◌, ◌++◌, [], List, ℕ, sym, ap, ◌∙◌}
use Rattle.std.specs.Prelude.{slice_set}
use Rattle.std.proofs.Math.Seq.{set-append_seam}
use Rattle.nib_path.specs.Paths.{id_of, id_of_view, length_of_view}
use Rattle.nib_path.proofs.NodeId.to_wire.Goals as goal

-- the first 32 bytes are the path's nibbles and then zeros, and the last byte is the depth, which is the path's length
pub returns : goal.returns
returns c =
    let id = c.copy_from_slice.new.self in
    let depth = c.self.inside.depth in
    let seam : slice_set (id ++ 0 ∷ []) 32 depth ≡ id ++ depth ∷ [] =
    ap (λ n. slice_set (id ++ 0 ∷ []) n depth) (sym c.copy_from_slice.ensures.len) ∙ set-append_seam id 0 [] depth
    in
    seam
    ∙ ap (λ (r : List ℕ). r ++ depth ∷ [])
    (c.copy_from_slice.ensures.after ∙ sym (id_of_view c.self.inside _ c.self.invariant c.self.view_is))
    ∙ ap (λ n. id_of c.args.self.now ++ n ∷ []) (sym (length_of_view c.self.inside _ c.self.invariant c.self.view_is))
