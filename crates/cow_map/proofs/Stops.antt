-- What stops one first, of several things on a way.
use Rattle.std.proofs.Common.{◌≡◌, ◌≢◌, ℕ, Bool, true, false, if◌then◌else◌, Option, None, Some}
use Rattle.std.proofs.Common.{Ok, Err}
use Rattle.std.proofs.Common.{List, refl, sym, ap, ◌∙◌}
use Rattle.std.specs.Option.{option_or}
use Rattle.std.proofs.lemmas.Slice.Eq.{bytes_eq-Decides}
use Rattle.ledger_spec.specs.Bytes.{Bytes, Hash, same_bytes}
use Rattle.cow_map.specs.declared.fault.MapFault.{MapFault}
use Rattle.cow_map.specs.declared.fault.MapFault.TheVariants as causes
use Rattle.cow_map.specs.declared.link.Link.{Link}
use Rattle.cow_map.specs.declared.look.Seen.{Seen}
use Rattle.cow_map.specs.declared.look.Seen.TheVariants as seen
use Rattle.cow_map.specs.Trees.{Found, none, one, fork, lacks, breaks}
use Rattle.cow_map.specs.Looks.{SeenAs, Stops}
use Rattle.cow_map.specs.Ways.{Stop, absent, misfit, Goes, stop_here}
use Rattle.cow_map.specs.Ways.{is_leaf_of}
use Rattle.cow_map.specs.Edits.{Leaves}

-- the code goes on where it sees what is found
pub shown_goes : (X : Type 0) (x : X) (path : List ℕ) (found : Found) (s : Seen) → SeenAs found s
    → Goes {X = X} (stop_here path found) (Ok x)
shown_goes X x path found seen.Nothing shown = ap (stop_here path) shown
shown_goes X x path found (seen.Leaf key bytes) shown = ap (stop_here path) shown
shown_goes X x path found (seen.Inner links) shown = ap (stop_here path) shown

-- and is stopped by what is in the way
pub stops_goes : (X : Type 0) (path : List ℕ) (found : Found) (fault : MapFault) → Stops path found fault
    → Goes {X = X} (stop_here path found) (Err fault)
stops_goes X path found (causes.Absent h) stops = ap (stop_here path) stops
stops_goes X path found (causes.Shape place rule) stops = ap (stop_here path) stops.1 ∙ ap (λ p. stop_here p (breaks rule)) (sym stops.0)
stops_goes X path found (causes.ZeroHash form) stops = stops
stops_goes X path found causes.Fault stops = tt
stops_goes X path found causes.Memory stops = tt

-- one is stopped where one was already
pub goes_or : (X : Type 0) (fault : MapFault) (a b : Option Stop) → Goes {X = X} a (Err fault) → Goes {X = X} (option_or a b) (Err fault)
goes_or X (causes.Absent h) a b goes = ap (λ s. option_or s b) goes
goes_or X (causes.Shape place rule) a b goes = ap (λ s. option_or s b) goes
goes_or X (causes.ZeroHash form) a b goes = goes
goes_or X causes.Fault a b goes = tt
goes_or X causes.Memory a b goes = tt

or_none : (a : Option Stop) → option_or a None ≡ a
or_none None = refl
or_none (Some s) = refl

next_stop : (s : Stop) (a b x : Option Stop) (t : Bool) → (t ≡ true → b ≡ None) → option_or a b ≡ Some s
    → option_or a (if t then x else b) ≡ Some s
next_stop s a b x false free e = e
next_stop s a b x true free e = ap (λ o. option_or o x) (sym (or_none a) ∙ ap (option_or a) (sym (free refl)) ∙ e)

pub goes_next : (X Y : Type 0) (fault : MapFault) (a b x : Option Stop) (t : Bool) → (t ≡ true → b ≡ None)
    → Goes {X = Y} (option_or a b) (Err fault) → Goes {X = X} (option_or a (if t then x else b)) (Err fault)
goes_next X Y (causes.Absent h) a b x t free goes = next_stop (absent h) a b x t free goes
goes_next X Y (causes.Shape place rule) a b x t free goes = next_stop (misfit place rule) a b x t free goes
goes_next X Y (causes.ZeroHash form) a b x t free goes = goes
goes_next X Y causes.Fault a b x t free goes = tt
goes_next X Y causes.Memory a b x t free goes = tt

pub or_both : (a b : Option Stop) → option_or a b ≡ None → (a ≡ None) × (b ≡ None)
or_both None b e = (refl, e)
or_both (Some s) b e = cc

-- which leaf is the key's
pub leaf_same : (key : Hash) (found : Found) → is_leaf_of key found ≡ true → (own : Hash) × (bytes : Bytes) × (found ≡ one own bytes)
    × (own ≡ key)
leaf_same key none is = cc
leaf_same key (one own bytes) is = (own, bytes, refl, (bytes_eq-Decides own key).0 is)
leaf_same key (fork links) is = cc
leaf_same key (lacks h) is = cc
leaf_same key (breaks fault) is = cc

leaf_other : (key own : Hash) (bytes : Bytes) → own ≢ key → is_leaf_of key (one own bytes) ≡ false
leaf_other key own bytes apart = by (same_bytes own key) refl
  where
    by : (t : Bool) → same_bytes own key ≡ t → same_bytes own key ≡ false
    by false is = is
    by true is = absurd (apart ((bytes_eq-Decides own key).0 is))

pub leaf_is : (key own : Hash) (bytes : Bytes) → own ≡ key → is_leaf_of key (one own bytes) ≡ true
leaf_is key own bytes same = (bytes_eq-Decides own key).1 same

-- what is left where nothing went isn't the key's leaf
pub nothing_went : (there : Link → Found) (lone : Bool) (path : List ℕ) (key : Hash) (found : Found)
    → Leaves there lone path key found None → is_leaf_of key found ≡ false
nothing_went there lone path key none leaves = refl
nothing_went there lone path key (one own bytes) leaves = leaf_other key own bytes leaves.1
nothing_went there lone path key (fork links) leaves = refl
nothing_went there lone path key (lacks h) leaves = refl
nothing_went there lone path key (breaks fault) leaves = refl
