-- The forms and hashes of the nodes that a map has made.
use Rattle.std.specs.Prelude.{◌≡◌, ◌⊎◌, ℕ, zero, suc, List, [], ◌∷◌, ◌++◌, Option, None, Some}
use Rattle.std.specs.Option.{option_map}
use Rattle.std.specs.List.{slice_get, flat_map}
use Rattle.ledger_spec.specs.declared.Kind.{Kind}
use Rattle.ledger_spec.specs.Bytes.{Bytes, Hash, Half, Lookup, zero_hash}
use Rattle.ledger_spec.specs.Forms.{leaf_form, inner_prefix, hash_or_zero}
use Rattle.cow_map.specs.declared.link.Link.{Link}
use Rattle.cow_map.specs.declared.link.Link.TheVariants.{Empty, Unloaded, Own}
use Rattle.cow_map.specs.Bodies.{Body, leaf, inner}

-- the hash that a link stands for, given the forms of the nodes of the list
abbrev pub hash_by : Half → List Body → (Body → Bytes) → Link → Hash
hash_by half nodes form Empty = zero_hash
hash_by half nodes form (Unloaded h) = h
hash_by half nodes form (Own i) = hash_or_zero half (option_map form (slice_get nodes i))

-- the form of a node, given the hashes of its links
abbrev pub form_by : Kind → (Link → Hash) → Body → Bytes
form_by kind hash (leaf key bytes) = leaf_form kind key bytes
form_by kind hash (inner links) = inner_prefix ++ flat_map hash links

-- the form of a node with `left` levels below it
unfoldable pub form_below : Half → Kind → List Body → ℕ → Body → Bytes
form_below half kind nodes zero body = form_by kind (λ l. zero_hash) body
form_below half kind nodes (suc left) body = form_by kind (hash_by half nodes (form_below half kind nodes left)) body

-- the hash that a link stands for, with `left` levels below it
abbrev pub hash_at : Half → Kind → List Body → ℕ → Link → Hash
hash_at half kind nodes left link = hash_by half nodes (form_below half kind nodes left) link

-- the forms below a node
abbrev pub made_in : (Link → List Bytes) → Body → List Bytes
made_in made (leaf key bytes) = []
made_in made (inner links) = flat_map made links

abbrev pub made_of : (Body → List Bytes) → Option Body → List Bytes
made_of made None = []
made_of made (Some body) = made body

-- the forms that the nodes of the list make that a link reaches
abbrev pub made_by : List Body → (Body → List Bytes) → Link → List Bytes
made_by nodes made Empty = []
made_by nodes made (Unloaded h) = []
made_by nodes made (Own i) = made_of made (slice_get nodes i)

-- the forms of a node and of those below it, branches rising and kids before their parent
unfoldable pub made_below : Half → Kind → List Body → ℕ → Body → List Bytes
made_below half kind nodes zero body = form_below half kind nodes zero body ∷ []
made_below half kind nodes (suc left) body =
    made_in (made_by nodes (made_below half kind nodes left)) body ++ form_below half kind nodes (suc left) body ∷ []

-- in the order of the forms: each is the next of those made here, or is held by the source under its half
abbrev pub Picks : Half → Lookup → List Bytes → List Bytes → Type 0
Picks half stored made [] = made ≡ []
Picks half stored made (form ∷ forms) =
    ((rest : List Bytes) × (made ≡ form ∷ rest) × Picks half stored rest forms)
    ⊎ ((stored (half form) ≡ Some form) × Picks half stored made forms)
