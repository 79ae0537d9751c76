-- What a change does to a list of nodes and to what a link stands for.
use Rattle.std.specs.Prelude.{◌≡◌, ◌≢◌, ℕ, suc, ◌<◌, ◌≤◌, Bool, true, false, ◌⊎◌, IsTrue, IsSome, IfSome, MatchOption, Option, None, Some}
use Rattle.std.specs.Prelude.{◌-◌, IfErr, IfOk, OnErr, OnOk, Result}
use Rattle.std.specs.Prelude.{List, [], ◌∷◌, ◌++◌, length}
use Rattle.std.specs.List.{flat_map, slice_index_or}
use Rattle.nib_path.specs.Paths.{lies_under}
use Rattle.ledger_spec.specs.declared.Kind.{Kind}
use Rattle.ledger_spec.specs.Bytes.{Bytes, Hash, Half, Lookup, Items, branches}
use Rattle.ledger_spec.specs.Forms.{IsItem}
use Rattle.ledger_spec.specs.Maps.{hash_cmp, insert_in, get_in, has_in, remove_in}
use Rattle.ledger_spec.specs.Tree.{Entry}
use Rattle.cow_map.specs.declared.fault.MapFault.{MapFault}
use Rattle.cow_map.specs.declared.link.Link.{Link}
use Rattle.cow_map.specs.declared.link.Link.TheVariants.{Empty}
use Rattle.cow_map.specs.declared.link.Only.{Only}
use Rattle.cow_map.specs.declared.link.Only.TheVariants as only
use Rattle.cow_map.specs.Bodies.{Body, CowTree, IsBelow}
use Rattle.cow_map.specs.Trees.{Found, none, one, fork, lacks, breaks, found_at, StandsAt, StandsFor}
use Rattle.cow_map.specs.Ways.{Stop, Goes, IsFailure, stop_here, stop_left}
use Rattle.cow_map.specs.Unloaded.{KeepsReach}

-- at most so many nodes are new, and those that were there are as they were
abbrev pub GrowsBy : ℕ → List Body → List Body → Type 0
GrowsBy most before after = (more : List Body) × (after ≡ before ++ more) × (length more ≤ most)

-- at most so many nodes are new, and those that were there are as they were; what is answered leads to a node of the list or to none
pub record MakesNodes {X E : Type 0} (most : ℕ) (LeadsWithin : ℕ → X → Type 0) (before after : List Body) (result : Result X E)
    : Type 0 where
  pub grows : GrowsBy most before after
  pub below : IfOk result (LeadsWithin (length after))

-- the link leads to a node of the list or to none, and its place lies on the way to the key
pub record IsOnWay (nodes : List Body) (path : List ℕ) (link : Link) (key : Hash) : Type 0 where
  pub below : IsBelow (length nodes) link
  pub under : IsTrue (lies_under path key)

-- both keys lie under the place
pub record AreUnder (path : List ℕ) (old_key key : Hash) : Type 0 where
  pub old_under : IsTrue (lies_under path old_key)
  pub under : IsTrue (lies_under path key)

-- they are two branches of an inner node at the place
pub record AreTwoBranches (path : List ℕ) (a b : ℕ) : Type 0 where
  pub inner : length path < 64
  pub old_branch : a < 16
  pub branch : b < 16
  pub differ : a ≢ b

-- an inner node with these links may stand at the place, which isn't at the bottom
pub record MayStand (nodes : List Body) (path : List ℕ) (links : List Link) : Type 0 where
  pub inner : length path < 64
  pub below : (b : ℕ) → IsBelow (length nodes) (slice_index_or links b Empty)

-- all that the smaller source holds is held by the other
abbrev pub IsSub : Lookup → Lookup → Type 0
IsSub small stored = (h : Hash) (form : Bytes) → small h ≡ Some form → stored h ≡ Some form

-- what the link at the path stood for, the next one stands for with the item set, also over a smaller source: nothing is needed of
-- it that wasn't before
abbrev pub Sets : Half → Lookup → Kind → List Body → List Body → ℕ → List ℕ → Link → Link → Hash → Bytes → Type 0
Sets half stored kind before after left path link next key value =
    (small : Lookup) → IsSub small stored → (items : List Entry) → StandsAt half small kind before left path link items
    → StandsAt half small kind after left path next (insert_in hash_cmp items key value)

-- the link leads to this leaf at each place on the way to its key
abbrev pub LeadsTo : Half → Lookup → Kind → List Body → Link → Hash → Bytes → Type 0
LeadsTo half stored kind nodes link key bytes =
    IsItem key bytes
    × ((path : List ℕ) → 0 < length path → IsTrue (lies_under path key) → found_at half stored kind nodes path link ≡ one key bytes)

-- what the link at the path stands for has this at the key
abbrev pub Gets : Half → Lookup → Kind → List Body → ℕ → List ℕ → Link → Hash → Option Bytes → Type 0
Gets half stored kind nodes left path link key found =
    (items : List Entry) → StandsAt half stored kind nodes left path link items → found ≡ get_in hash_cmp items key

-- the branches' links hold these entries between them, in their order
abbrev pub Branches : (ℕ → Link → List Entry → Type 0) → List Link → (ℕ → List Entry) → List Entry → Type 0
Branches below links kids items = (items ≡ flat_map kids branches) × ((b : ℕ) → b < 16 → below b (slice_index_or links b Empty) (kids b))

-- what the links of an inner node at the path hold between them, the next link stands for in its place
abbrev pub SettlesAt : Half → Lookup → Kind → List Body → List Body → ℕ → List ℕ → List Link → Link → Type 0
SettlesAt half stored kind before after lower path links next =
    (items : List Entry) (kids : ℕ → List Entry)
    → Branches (λ b l es. StandsAt half stored kind before lower (path ++ b ∷ []) l es) links kids items
    → StandsAt half stored kind after (suc lower) path next items

-- the same over each smaller source
abbrev pub Settles : Half → Lookup → Kind → List Body → List Body → ℕ → List ℕ → List Link → Link → Type 0
Settles half stored kind before after lower path links next =
    (small : Lookup) → IsSub small stored → SettlesAt half small kind before after lower path links next

-- what the link at the path stood for has nothing at the key, or the next link stands for it without the key
abbrev pub Removes : Half → Lookup → Kind → List Body → List Body → ℕ → List ℕ → Link → Hash → Option Link → Type 0
Removes half stored kind before after left path link key None =
    (small : Lookup) → IsSub small stored → (items : List Entry) → StandsAt half small kind before left path link items
    → get_in hash_cmp items key ≡ None
Removes half stored kind before after left path link key (Some next) =
    (small : Lookup) → IsSub small stored → (items : List Entry) → StandsAt half small kind before left path link items
    → IsSome (get_in hash_cmp items key) × StandsAt half small kind after left path next (remove_in hash_cmp items key)

-- a link that may be there leads to one of the first n nodes, or to none of the list
abbrev pub IsBelowIf : ℕ → Option Link → Type 0
IsBelowIf n None = Unit {0}
IsBelowIf n (Some link) = IsBelow n link

-- how many of the links lead anywhere
abbrev pub Counts : List Link → Only → Type 0
Counts links only.Nowhere = (c : ℕ) → slice_index_or links c Empty ≡ Empty
Counts links (only.One c) = (c < 16) × (slice_index_or links c Empty ≢ Empty) × ((d : ℕ) → d ≢ c → slice_index_or links d Empty ≡ Empty)
Counts links only.Many =
    (c : ℕ) × (d : ℕ) × (c < 16) × (d < 16) × (d ≢ c) × (slice_index_or links c Empty ≢ Empty) × (slice_index_or links d Empty ≢ Empty)

-- whether a leaf is found, on the way to its key
abbrev pub IsLeaf : List ℕ → Found → Bool → Type 0
IsLeaf path found true = (key : Hash) × (bytes : Bytes) × (found ≡ one key bytes) × IsTrue (lies_under path key)
IsLeaf path found false = (found ≡ none) ⊎ ((links : List Link) × (found ≡ fork links))

-- what a link leaves in its place where the key is removed: nothing of the key's leaf, which isn't alone below the root, and something
-- sound of an inner node; below the root an inner node leaves something
abbrev pub Leaves : (Link → Found) → Bool → List ℕ → Hash → Found → Option Link → Type 0
Leaves there lone path key none left = left ≡ None
Leaves there lone path key (one own bytes) left =
    (IsTrue lone → length path < 2) × MatchOption left (own ≢ key) (λ l. (l ≡ Empty) × (own ≡ key))
Leaves there lone path key (fork links) left = IfSome left (λ l. (0 < length path → l ≢ Empty) × (stop_here path (there l) ≡ None))
Leaves there lone path key (lacks h) left = ⊥
Leaves there lone path key (breaks fault) left = ⊥

-- the removal below a place: what the link there stood for has nothing at the key, or the next link stands for it without the key; and what
-- the link leaves in its place
pub record TakesKey (tells : Bool) (half : Half) (stored : Lookup) (kind : Kind) (before after : List Body) (lone : Bool) (path : List ℕ)
    (link : Link) (key : Hash) (result : Result (Option Link) MapFault) : Type 0 where
  pub removes : IsTrue tells → IfOk result (Removes half stored kind before after (64 - length path) path link key)
  pub leaves : IsTrue tells → IfOk result
      (let there = found_at half stored kind in Leaves (there after path) lone path key (there before path link))

-- what stands in the place of an inner node with these links: what they hold between them, and something sound; a look at the only one that
-- is left goes all the way, or what stops it is named; and nothing stands there only where no link leads anywhere
pub record StandsIn (tells : Bool) (half : Half) (stored : Lookup) (kind : Kind) (before after : List Body) (path : List ℕ)
    (links : List Link) (result : Result Link MapFault) : Type 0 where
  pub stands : IsTrue tells → IfOk result (Settles half stored kind before after (63 - length path) path links)
  pub way : IsTrue tells → Goes (stop_left (found_at half stored kind before) path links) result
  pub sound : IsTrue tells → IfOk result (λ link. stop_here path (found_at half stored kind after path link) ≡ None)
  pub some : IfOk result (λ link. link ≡ Empty → (c : ℕ) → slice_index_or links c Empty ≡ Empty)

-- an edit over a source that tells what it holds. Where the old map stood for something, what the new one leaves to the source the old one
-- did, or it is reached from that. What the source lacks, or what breaks a rule of shape, is named exactly where it is what stops the edit
-- on its way. Where the map stands for something, only a failure of the source or want of memory comes.
pub record EditsMap {X : Type 0} (tells : Bool) (half : Half) (stored : Lookup) (old new : CowTree) (stop : Option Stop)
    (result : Result X MapFault) : Type 0 where
  pub reach : IsTrue tells → OnOk result (KeepsReach half stored old new)
  pub way : IsTrue tells → Goes stop result
  pub free : IsTrue tells → (items : Items) → StandsFor half stored old items → IfErr result IsFailure

-- whatever finite map the old map stood for, over the source or a smaller one, the new map stands for it with the item set; so it needs
-- nothing of the source that the old one didn't
abbrev pub SetsItem : Half → Lookup → CowTree → CowTree → Hash → Bytes → Type 0
SetsItem half stored old new key value =
    (small : Lookup) → IsSub small stored → (items : Items) → StandsFor half small old items
    → StandsFor half small new (insert_in hash_cmp items key value)

-- the same without the key, and whether it was there
abbrev pub RemovesKey : Half → Lookup → CowTree → CowTree → Hash → Bool → Type 0
RemovesKey half stored old new key there =
    (small : Lookup) → IsSub small stored → (items : Items) → StandsFor half small old items
    → (there ≡ has_in hash_cmp items key) × StandsFor half small new (remove_in hash_cmp items key)

-- the new map is of the old one's kind; at most so many of its nodes are new, and those that were there are as they were
pub record MapGrowsBy (most : ℕ) (old new : CowTree) : Type 0 where
  pub kind : new.kind ≡ old.kind
  pub nodes : GrowsBy most old.nodes new.nodes

-- a map from which nothing was removed is as it was, its nodes too
pub record StaysUnlessThere (old new : CowTree) (result : Result Bool MapFault) : Type 0 where
  pub absent : IfOk result (λ there. there ≡ false → new ≡ old)
  pub err : OnErr result (new ≡ old)
