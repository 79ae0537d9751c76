-- What sealing gives.
use Rattle.std.specs.Prelude.{◌≡◌, ℕ, ◌<◌, take, List, [], ◌∷◌, ◌++◌, map, Option, None, Some, Result, Ok, Err}
use Rattle.std.specs.List.{All, find, flat_map, slice_index_or}
use Rattle.ledger_spec.specs.declared.Kind.{Kind}
use Rattle.ledger_spec.specs.Bytes.{Bytes, Hash, Half, Items, Lookup, is_zero}
use Rattle.ledger_spec.specs.Commits.{AreOwn}
use Rattle.ledger_spec.specs.Tree.{Entry, root_of, forms_of}
use Rattle.ledger_spec.specs.Forms.{inner_prefix}
use Rattle.cow_map.specs.declared.fault.MapFault.{MapFault}
use Rattle.cow_map.specs.declared.fault.MapFault.TheVariants as causes
use Rattle.cow_map.specs.declared.link.Link.{Link}
use Rattle.cow_map.specs.declared.link.Link.TheVariants.{Empty}
use Rattle.cow_map.specs.declared.seal.FormOf.{FormOf}
use Rattle.cow_map.specs.declared.seal.Sealed.{Sealed}
use Rattle.cow_map.specs.Bodies.{Body, CowTree}
use Rattle.cow_map.specs.Trees.{StandsAt, StandsFor}
use Rattle.cow_map.specs.Seals.{hash_at, made_by, made_below, Picks}

-- a form with its hash
abbrev pub named : Half → Bytes → FormOf
named half form = record { hash = half form; form = form }

-- each form is given with its own hash
abbrev pub AreNamed : Half → List FormOf → Type 0
AreNamed half forms = All (λ f. f.hash ≡ half f.form) forms

-- the first form whose hash is zero
abbrev pub first_zero : Half → List Bytes → Option Bytes
first_zero half forms = find (λ form. is_zero (half form)) forms

-- the forms are added under their hashes, none of which is zero; or the first whose hash is zero is the fault, or memory was refused
abbrev pub AddsAll : {X : Type 0} → Half → List Bytes → List FormOf → List FormOf → Result X MapFault → Type 0
AddsAll half made before after (Ok x) = (after ≡ before ++ map (named half) made) × (first_zero half made ≡ None)
AddsAll half made before after (Err (causes.ZeroHash form)) = first_zero half made ≡ Some form
AddsAll half made before after (Err causes.Memory) = Unit {0}
AddsAll half made before after (Err (causes.Absent h)) = ⊥
AddsAll half made before after (Err causes.Fault) = ⊥
AddsAll half made before after (Err (causes.Shape place rule)) = ⊥

-- the answer, where there is one, is this
abbrev pub IsAnswer : {X : Type 0} → Result X MapFault → X → Type 0
IsAnswer (Ok x) y = x ≡ y
IsAnswer (Err e) y = Unit {0}

-- nothing but a zero hash and want of memory
abbrev pub IsSealFault : MapFault → Type 0
IsSealFault (causes.ZeroHash form) = Unit {0}
IsSealFault causes.Memory = Unit {0}
IsSealFault (causes.Absent h) = ⊥
IsSealFault causes.Fault = ⊥
IsSealFault (causes.Shape place rule) = ⊥

-- one form is added, and its hash is the answer
abbrev pub Adds : Half → Bytes → List FormOf → List FormOf → Result Hash MapFault → Type 0
Adds half form before after result = AddsAll half (form ∷ []) before after result × IsAnswer result (half form)

-- the forms that a link reaches, with `left` levels below it
abbrev pub made_at : Half → Kind → List Body → ℕ → Link → List Bytes
made_at half kind nodes left link = made_by nodes (made_below half kind nodes left) link

-- where a link stands for entries, the forms that it reaches are added, and its hash is the answer
abbrev pub Seals : Half → Kind → List Body → Link → List FormOf → List FormOf → Result Hash MapFault → Type 0
Seals half kind nodes link before after result =
    (stored : Lookup) (left : ℕ) (path : List ℕ) (items : List Entry) → StandsAt half stored kind nodes left path link items
    → AddsAll half (made_at half kind nodes left link) before after result × IsAnswer result (hash_at half kind nodes left link)

-- the branches stand for entries
abbrev pub Stand : Half → Lookup → Kind → List Body → ℕ → List ℕ → List Link → (ℕ → List Entry) → Type 0
Stand half stored kind nodes left path links kids =
    (b : ℕ) → b < 16 → StandsAt half stored kind nodes left (path ++ b ∷ []) (slice_index_or links b Empty) (kids b)

-- where the branches of an inner node stand for entries, the forms that they reach are added, and the node's own form is the answer
abbrev pub SealsForm : Half → Kind → List Body → List Link → List FormOf → List FormOf → Result Bytes MapFault → Type 0
SealsForm half kind nodes links before after result =
    (stored : Lookup) (left : ℕ) (path : List ℕ) (kids : ℕ → List Entry) → Stand half stored kind nodes left path links kids
    → AddsAll half (flat_map (made_at half kind nodes left) links) before after result
    × IsAnswer result (inner_prefix ++ flat_map (hash_at half kind nodes left) links)

-- the same of the first n branches, while the answer grows
pub record SealsFront (half : Half) (kind : Kind) (nodes : List Body) (links : List Link) (before after : List FormOf)
    (bytes : Bytes) (n : ℕ) (stored : Lookup) (left : ℕ) : Type 0 where
  pub added : after ≡ before ++ map (named half) (flat_map (made_at half kind nodes left) (take n links))
  pub nonzero : first_zero half (flat_map (made_at half kind nodes left) (take n links)) ≡ None
  pub form : bytes ≡ inner_prefix ++ flat_map (hash_at half kind nodes left) (take n links)

-- the forms of the nodes that a map's top reaches and that were made here
abbrev pub made_of_map : Half → CowTree → List Bytes
made_of_map half m = made_at half m.kind m.nodes 64 m.top

-- what a seal tells of a map. Where the map stands for a finite map over forms under their own hashes, the root is that map's. The forms
-- are those that the nodes of the list make which the top reaches; in the order of all forms of that map, these are at least those that
-- the source lacks; and each is given with its own hash, whatever the map stands for.
pub record IsSealOf (half : Half) (m : CowTree) (s : Sealed) : Type 0 where
  pub root : (stored : Lookup) (items : Items) → AreOwn half stored → StandsFor half stored m items → s.root ≡ root_of half m.kind items
  pub forms : (stored : Lookup) (items : Items) → StandsFor half stored m items
      → s.forms.items ≡ map (named half) (made_of_map half m)
  pub tree : (stored : Lookup) (items : Items) → AreOwn half stored → StandsFor half stored m items
      → Picks half stored (made_of_map half m) (forms_of half m.kind items)
  pub named : AreNamed half s.forms.items

-- the fault names the first form whose hash is zero, and an answer says that there is none
abbrev pub NamesZero : {X : Type 0} → Option Bytes → Result X MapFault → Type 0
NamesZero zero (Ok x) = zero ≡ None
NamesZero zero (Err (causes.ZeroHash form)) = zero ≡ Some form
NamesZero zero (Err causes.Memory) = Unit {0}
NamesZero zero (Err (causes.Absent h)) = ⊥
NamesZero zero (Err causes.Fault) = ⊥
NamesZero zero (Err (causes.Shape place rule)) = ⊥
