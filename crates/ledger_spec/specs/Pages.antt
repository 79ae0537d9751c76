-- What nodes, each before those below it, say of the items behind a key.
use Rattle.std.specs.Prelude.{◌≡◌, ◌⊎◌, ◌==◌, ◌-◌, ◌&&◌, ◌||◌, ℕ, zero, suc, Bool, if◌then◌else◌, is_none, List, [], ◌∷◌, ◌++◌, length}
use Rattle.std.specs.Prelude.{take, Option, None, Some}
use Rattle.std.specs.Ordering.{is_gt, is_lt}
use Rattle.std.specs.List.{filter, slice_index_or}
use Rattle.nib_path.specs.Paths.{nibbles}
use Rattle.ledger_spec.specs.Maps.{hash_cmp}
use Rattle.ledger_spec.specs.declared.Kind.{Kind}
use Rattle.ledger_spec.specs.Bytes.{Hash, Half, Lookup, Items, zero_hash, is_zero, branches, same_bytes}
use Rattle.ledger_spec.specs.Forms.{Held, inner, leaf, header, IsHeld, form_of, hash_of}
use Rattle.ledger_spec.specs.Rules.{fault_of}
use Rattle.ledger_spec.specs.Tree.{Entry, AreItems, root_of}
use Rattle.ledger_spec.specs.Reads.{Shows}

-- the entry's key is greater
abbrev pub is_behind : Hash → Entry → Bool
is_behind after e = is_gt (hash_cmp e.0 after)

-- the first n items behind a key
abbrev pub after_key : Hash → ℕ → Items → Items
after_key after n items = take n (filter (is_behind after) items)

-- each key that lies under the path is less
abbrev pub is_passed : Hash → List ℕ → Bool
is_passed after path = is_lt (hash_cmp path (take (length path) (nibbles after)))

-- what some nodes say: entries, with the nodes that are left; or the place for which a further node is wanted, below this inner
-- node and with this hash; or that they aren't the nodes of their places
pub data Heard : Type 0 where
  said : Items → List Held → Heard
  wants : Option (List Hash) → List ℕ → Hash → Heard
  wrong : Heard

-- of at most n entries
abbrev pub Reading : Type 0
Reading = ℕ → List Held → Heard

-- what is said goes on
abbrev pub go_on : (Items → List Held → Heard) → Heard → Heard
go_on next (said items rest) = next items rest
go_on next (wants parent path h) = wants parent path h
go_on next wrong = wrong

-- entries, and then those that are said
abbrev pub followed_by : Items → Heard → Heard
followed_by items (said more rest) = said (items ++ more) rest
followed_by items (wants parent path h) = wants parent path h
followed_by items wrong = wrong

-- one place after another
abbrev pub in_turn : (ℕ → Reading) → List ℕ → Reading
in_turn each [] n used = said [] used
in_turn each (b ∷ bs) n used = go_on (λ items rest. followed_by items (in_turn each bs (n - length items) rest)) (each b n used)

-- the entry of a leaf, where it is behind the key
abbrev pub leaf_entries : Hash → Hash → List ℕ → Items
leaf_entries after key bytes = if is_behind after (key, bytes) then (key, bytes) ∷ [] else []

-- a node at its place, and what is below it
abbrev pub said_by : Hash → (List Hash → Reading) → Held → Reading
said_by after below (leaf own key bytes) n rest = said (leaf_entries after key bytes) rest
said_by after below (inner hashes) n rest = below hashes n rest
said_by after below (header bytes) n rest = wrong

-- the next node, where it has the hash and breaks no rule
abbrev pub said_at : Half → Kind → Hash → Option (List Hash) → List ℕ → Hash → (List Hash → Reading) → Reading
said_at half kind after parent path h below n [] = wants parent path h
said_at half kind after parent path h below n (x ∷ rest) =
    if same_bytes (hash_of half x) h && is_none (fault_of x parent kind path) then said_by after below x n rest else wrong

-- nothing is read where no entry is wanted, at an empty branch, and where all keys are less
abbrev pub is_skipped : Hash → List ℕ → Hash → ℕ → Bool
is_skipped after path h n = (n == 0) || (is_zero h || is_passed after path)

-- the nodes at and below a place, branches rising; there are `left` levels below it
unfoldable pub page_from : Half → Kind → Hash → ℕ → Option (List Hash) → List ℕ → Hash → Reading
page_from half kind after zero parent path h n used =
    if is_skipped after path h n then said [] used else said_at half kind after parent path h (λ hashes n rest. wrong) n used
page_from half kind after (suc left) parent path h n used =
    if is_skipped after path h n then said [] used
    else said_at half kind after parent path h
    (λ hashes.
    in_turn (λ b. page_from half kind after left (Some hashes) (path ++ b ∷ []) (slice_index_or hashes b zero_hash)) branches)
    n used

-- the nodes from the root on
unfoldable pub heard_from : Half → Kind → Hash → Hash → Reading
heard_from half kind root after = page_from half kind after 64 None [] root

-- each is read, and none left
abbrev pub IsPageOf : Half → Kind → Hash → Hash → ℕ → List Held → Items → Type 0
IsPageOf half kind root after n used page = heard_from half kind root after n used ≡ said page []

-- for every map with this root, the page is the map's own, or the nodes show two with one hash
abbrev pub IsPageOrShows : Half → Kind → Hash → Hash → ℕ → List Held → Items → Type 0
IsPageOrShows half kind root after n used page = (items : Items) → AreItems half kind items → root_of half kind items ≡ root
    → (page ≡ after_key after n items) ⊎ Shows half kind items root used

-- a node that is stored under its hash
pub record IsStoredNode (half : Half) (nodes : Lookup) (n : Held) : Type 0 where
  pub stored : nodes (hash_of half n) ≡ Some (form_of n)
  pub held : IsHeld half n
