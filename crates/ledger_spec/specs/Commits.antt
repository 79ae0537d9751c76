-- What a whole tree commits to.
use Rattle.std.specs.Prelude.{◌≡◌, [], IsTrue, Some}
use Rattle.std.specs.List.{filter_map}
use Rattle.ledger_spec.specs.declared.Kind.{Kind}
use Rattle.ledger_spec.specs.Bytes.{Bytes, Hash, Half, Lookup, are_bytes}
use Rattle.ledger_spec.specs.Findings.{finding_at, walk_map, items_of}
use Rattle.ledger_spec.specs.Tree.{AreItems, root_of}

-- each form is stored under its own half
abbrev pub AreOwn : Half → Lookup → Type 0
AreOwn half nodes = (h : Hash) (form : Bytes) → nodes h ≡ Some form → h ≡ half form

-- each form is bytes
abbrev pub AreByteForms : Lookup → Type 0
AreByteForms nodes = (h : Hash) (form : Bytes) → nodes h ≡ Some form → IsTrue (are_bytes form)

-- nothing is missing and nothing is broken in the map below a root
abbrev pub IsWholeMap : Half → Lookup → Kind → Hash → Type 0
IsWholeMap half nodes kind root = filter_map (λ m. finding_at m.place m.sight) (walk_map half nodes kind root) ≡ []

-- the leaves below a root are a finite map of items, whose tree has this root
pub record Commits (half : Half) (nodes : Lookup) (kind : Kind) (root : Hash) : Type 0 where
  pub are : AreItems half kind (items_of half nodes kind root)
  pub root_is : root_of half kind (items_of half nodes kind root) ≡ root
