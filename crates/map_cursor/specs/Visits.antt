-- What a visit of places adds to a page, and why one ends.
use Rattle.std.specs.Prelude.{◌≡◌, ◌≢◌, ◌-◌, ◌++◌, ℕ, Bool, IsTrue, List, [], ◌∷◌, length, Option, Some, Result, Ok, Err}
use Rattle.std.specs.List.{slice_index_or}
use Rattle.ledger_spec.specs.declared.Kind.{Kind}
use Rattle.ledger_spec.specs.declared.Kind.TheVariants.{Set}
use Rattle.ledger_spec.specs.Bytes.{Hash, Half, Lookup, Items, zero_hash}
use Rattle.ledger_spec.specs.Forms.{Held}
use Rattle.ledger_spec.specs.Findings.{items_of}
use Rattle.ledger_spec.specs.Pages.{after_key, page_from, said, wants, Reading, IsPageOf, IsPageOrShows}
use Rattle.ledger_spec.specs.Reads.{AreNodes}
use Rattle.path_proof.specs.declared.answer.ReadFault.{ReadFault}
use Rattle.path_proof.specs.Paths.{held_nodes}
use Rattle.path_proof.specs.Sources.{AreHeld}
use Rattle.path_proof.specs.Ways.{Ends}
use Rattle.map_cursor.specs.declared.paging.Page.{Page}
use Rattle.map_cursor.specs.Shown.{HasFurther, Shown, items_in}

-- a page of at most so many items has more: what a reading says of the nodes that were read
pub record Visited (half : Half) (tells : Bool) (nodes : Lookup) (reading : Reading) (most : ℕ) (s t : Shown) : Type 0 where
  pub items : Items
  pub more : List Held
  pub items_are : t.items ≡ s.items ++ items
  pub used_are : t.used ≡ s.used ++ more
  pub heard : (rest : List Held) → reading (most - length s.items) (more ++ rest) ≡ said items rest
  pub stored : AreHeld half tells nodes more

-- a reading of the nodes that were read wants one more for a place, where this ends the visit
pub record Refused (half : Half) (kind : Kind) (tells : Bool) (nodes : Lookup) (reading : Reading) (n : ℕ) (fault : ReadFault) : Type 0
  where
    pub more : List Held
    pub above : Option (List Hash)
    pub path : List ℕ
    pub hash : Hash
    pub heard : reading n more ≡ wants above path hash
    pub stored : AreHeld half tells nodes more
    pub ends : Ends half kind tells nodes above path hash fault

-- the outcome of a visit
abbrev pub Visits : {X : Type 0} → Half → Kind → Bool → Lookup → Reading → ℕ → Shown → Shown → Result X ReadFault → Type 0
Visits half kind tells nodes reading most s t (Ok x) = Visited half tells nodes reading most s t
Visits half kind tells nodes reading most s t (Err fault) = Refused half kind tells nodes reading (most - length s.items) fault

-- the reading of a branch below an inner node
abbrev pub branch_reading : Half → Kind → Hash → ℕ → List Hash → List ℕ → ℕ → Reading
branch_reading half kind after left hashes path b =
    page_from half kind after left (Some hashes) (path ++ b ∷ []) (slice_index_or hashes b zero_hash)

-- the items are those of each map with this root, or the nodes show two with one hash: of maps of states or transactions, and of maps of
-- sets where each leaf that was read has its hash as its key
pub record AreOfMaps (half : Half) (kind : Kind) (root after : Hash) (n : ℕ) (used : List Held) (items : Items) : Type 0 where
  pub law : kind ≢ Set → IsPageOrShows half kind root after n used items
  pub sets : AreNodes half kind used → IsPageOrShows half kind root after n used items

-- what a page tells. Its items are what its nodes say from the root on, and its leaves are those of the nodes that are leaves behind the
-- key. Where the source tells what it holds, the nodes are held there, and the items are those of the source's own map. And they are those
-- of each map with this root, or the nodes show two with one hash.
pub record TellsPage (half : Half) (kind : Kind) (root after : Hash) (n : ℕ) (tells : Bool) (nodes : Lookup) (p : Page) : Type 0 where
  pub page : IsPageOf half kind root after n (held_nodes p.used.items) (items_in p.leaves.items)
  pub leaves : HasFurther after p
  pub held : AreHeld half tells nodes (held_nodes p.used.items)
  pub own : IsTrue tells → items_in p.leaves.items ≡ after_key after n (items_of half nodes kind root)
  pub maps : AreOfMaps half kind root after n (held_nodes p.used.items) (items_in p.leaves.items)
