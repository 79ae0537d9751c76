-- A ledger's findings, by what is seen at its header.
use Rattle.std.proofs.Common.{◌≡◌, false, [], ◌++◌, None, Some, sym, ap, ◌∙◌}
use Rattle.std.specs.List.{filter_map, cons_option}
use Rattle.std.proofs.lemmas.List.Elements.{filter_map-append}
use Rattle.ledger_spec.specs.declared.Kind.TheVariants.{State, Tx}
use Rattle.ledger_spec.specs.declared.Place.TheVariants.{Header}
use Rattle.ledger_spec.specs.declared.ShapeFault.TheVariants.{Foreign}
use Rattle.ledger_spec.specs.Bytes.{Bytes, Hash, Half, Lookup}
use Rattle.ledger_spec.specs.Header.{state_root_of, tx_root_of}
use Rattle.ledger_spec.specs.Forms.{header_of}
use Rattle.ledger_spec.specs.Findings.{Sight, missing, broken, lacks, breaks, finding_at, findings, walk, walk_map}
use Rattle.ledger_spec.specs.Findings.{walk_ledger, header_sight, header_or_foreign, maps_of}
use Rattle.missing_walk.specs.Sees.{Seen, is_over, noted, sees, found_in_maps}
use Rattle.tree_laws.specs.Walks.{finding_of, found_below}
use Rattle.missing_walk.proofs.Noting.{sees_one}

pub maps_found : (half : Half) (nodes : Lookup) (bytes : Bytes)
    → found_in_maps half nodes bytes ≡ found_below half nodes State 64 None []
    (state_root_of bytes) ++ found_below half nodes Tx 64 None [] (tx_root_of bytes)
unfolding found_in_maps found_below walk_map
maps_found half nodes bytes =
    filter_map-append finding_of (walk half nodes State 64 None [] (state_root_of bytes)) (walk half nodes Tx 64 None []
    (tx_root_of bytes))

pub from_header : (half : Half) (nodes : Lookup) (target : Hash) (sight : Sight) → header_sight (nodes target) ≡ sight
    → findings half nodes target ≡ cons_option (finding_at Header sight) (filter_map finding_of (maps_of half nodes sight))
unfolding walk_ledger
from_header half nodes target sight e = ap (λ x. cons_option (finding_at Header x) (filter_map finding_of (maps_of half nodes x))) e

module _ (half : Half) (nodes : Lookup) (target : Hash) (s : Seen) where
  pub lacks_header : (after : Seen) → is_over s ≡ false → None ≡ nodes target → after ≡ noted s (lacks Header)
      → after ≡ sees s (findings half nodes target)
  lacks_header after more none done =
      done ∙ sees_one s (lacks Header) more ∙ ap (sees s) (sym (from_header half nodes target missing (ap header_sight (sym none))))

  pub foreign_header : (after : Seen) (form bytes : Bytes) → is_over s ≡ false → Some form ≡ nodes target → bytes ≡ form
      → None ≡ header_of bytes
      → after ≡ noted s (breaks Header Foreign) → after ≡ sees s (findings half nodes target)
  foreign_header after form bytes more stored same none done =
      done ∙ sees_one s (breaks Header Foreign) more
      ∙ ap (sees s) (sym (from_header half nodes target (broken Foreign)
      (ap header_sight (sym stored) ∙ ap header_or_foreign (ap header_of (sym same) ∙ sym none))))
