-- How findings are noted, one after the other.
use Rattle.std.proofs.Common.{◌≡◌, ℕ, zero, suc, ◌+◌, ◌≤◌, ◌<◌, ◌||◌, Bool, true, false, is_some, nat_le, List, []}
use Rattle.std.proofs.Common.{◌∷◌, ◌++◌, length, None, refl, sym, ap, ◌∙◌, subst, arith, length-append}
use Rattle.std.proofs.Common.{append-nil}
use Rattle.ledger_spec.specs.declared.Place.{Place}
use Rattle.ledger_spec.specs.declared.ShapeFault.{ShapeFault}
use Rattle.std.proofs.lemmas.List.{append_assoc}
use Rattle.std.proofs.lemmas.Bool.{le-leb}
use Rattle.std.proofs.lemmas.Bool.Decides.{nat_tests}
use Rattle.std.specs.List.{filter_map}
use Rattle.ledger_spec.specs.Bytes.{Hash, Half, Lookup}
use Rattle.ledger_spec.specs.Findings.{Finding, lacks, breaks, up_to, findings, seen}
use Rattle.ledger_spec.specs.Findings.{missing_of, first_broken}
use Rattle.missing_walk.specs.Sees.{Seen, most_missing, is_over, noted, note, sees, nothing_seen, shown, Finds, IsHeaderOf}
use Rattle.missing_walk.specs.declared.Found.{Found}

pub sees-append : (s : Seen) (xs ys : List Finding) → sees s (xs ++ ys) ≡ sees (sees s xs) ys
sees-append s [] ys = refl
sees-append s (x ∷ xs) ys = sees-append (note s x) xs ys

-- one that is over stays as it is
note_over : (s : Seen) (f : Finding) → is_over s ≡ true → note s f ≡ s
note_over s f over = rw over refl

pub sees_over : (s : Seen) (xs : List Finding) → is_over s ≡ true → sees s xs ≡ s
sees_over s [] over = refl
sees_over s (x ∷ xs) over = ap (λ t. sees t xs) (note_over s x over) ∙ sees_over s xs over

noted_is : (s : Seen) (f : Finding) → is_over s ≡ false → noted s f ≡ note s f
noted_is s f more = rw more refl

pub sees_one : (s : Seen) (f : Finding) → is_over s ≡ false → noted s f ≡ sees s (f ∷ [])
sees_one s f more = rw more refl

or_second : (a b : Bool) → (a || b) ≡ false → b ≡ false
or_second true b e = cc
or_second false b e = e

below : (a b : ℕ) → nat_le a b ≡ false → b < a
below a b e = grind (arith, nat_tests)

-- what is seen of findings, if so many missing places are still taken
pub record Follows (before after : Seen) (found : List Finding) : Type 0 where
  pub missing : after.missing ≡ before.missing ++ filter_map missing_of found
  pub broken : after.broken ≡ first_broken found

-- a search with room for so many missing places
pub record HasRoom (s : Seen) (room : ℕ) : Type 0 where
  pub left : length s.missing + room ≡ most_missing
  pub whole : s.broken ≡ None

or_right : (a b : Bool) → b ≡ true → (a || b) ≡ true
or_right true b e = refl
or_right false b e = e

or_neither : (a b : Bool) → a ≡ false → b ≡ false → (a || b) ≡ false
or_neither true b p q = cc
or_neither false b p q = q

not_le : (a b : ℕ) → b < a → nat_le a b ≡ false
not_le a b h = grind (arith, nat_tests)

over_at_most : (s : Seen) → HasRoom s 0 → is_over s ≡ true
over_at_most s h =
    or_right (is_some s.broken) (nat_le most_missing (length s.missing)) (le-leb most_missing (length s.missing) (omega (arith, h.left)))

more_within : (s : Seen) (room : ℕ) → HasRoom s (suc room) → is_over s ≡ false
more_within s room h = or_neither (is_some s.broken) (nat_le most_missing (length s.missing)) (ap is_some h.whole)
    (not_le most_missing (length s.missing) (omega (arith, h.left)))

with_missing : (s : Seen) (room : ℕ) (place : Place) → HasRoom s (suc room) → HasRoom (noted s (lacks place)) room
with_missing s room place h = record { left = omega (arith, h.left, length-append s.missing (place ∷ [])); whole = h.whole }

with_more : (s after : Seen) (place : Place) (found : List Finding) → Follows (noted s (lacks place)) after found
    → Follows s after (lacks place ∷ found)
with_more s after place found h =
    record { missing = h.missing ∙ append_assoc s.missing (place ∷ []) (filter_map missing_of found); broken = h.broken }

-- what a search keeps is the shortest front that ends it
pub sees_up_to : (s : Seen) (room : ℕ) (xs : List Finding) → HasRoom s room → Follows s (sees s xs) (up_to room xs)
sees_up_to s room [] h = record { missing = sym (append-nil s.missing); broken = h.whole }
sees_up_to s zero (x ∷ xs) h =
    subst (λ t. Follows s t []) (sym (sees_over s (x ∷ xs) (over_at_most s h)))
    (record { missing = sym (append-nil s.missing); broken = h.whole })
sees_up_to s (suc room) (lacks place ∷ xs) h =
    subst (λ t. Follows s (sees t xs) (lacks place ∷ up_to room xs)) (noted_is s (lacks place) (more_within s room h))
    (with_more s _ place (up_to room xs) (sees_up_to (noted s (lacks place)) room xs (with_missing s room place h)))
sees_up_to s (suc room) (breaks place fault ∷ xs) h =
    subst (λ t. Follows s (sees t xs) (breaks place fault ∷ [])) (noted_is s (breaks place fault) (more_within s room h))
    (subst (λ t. Follows s t (breaks place fault ∷ [])) (sym (sees_over (noted s (breaks place fault)) xs refl))
    (record { missing = sym (append-nil s.missing); broken = refl }))

-- what a search found that began with nothing
pub finds : (half : Half) (nodes : Lookup) (t : Hash) (f : Found) → IsHeaderOf nodes t f.header
    → shown f ≡ sees nothing_seen (findings half nodes t) → Finds half nodes t f
finds half nodes t f head e =
    let h : Follows nothing_seen (sees nothing_seen (findings half nodes t)) (seen half nodes t) =
    sees_up_to nothing_seen 256 (findings half nodes t) (record { left = refl; whole = refl }) in
    record { header = head; missing = ap (λ (x : Seen). x.missing) e ∙ h.missing; broken = ap (λ (x : Seen). x.broken) e ∙ h.broken }

-- there is room for one place more
pub one_more : (f f' : Found) (place : Place) → false ≡ is_over (shown f) → shown f' ≡ noted (shown f) (lacks place)
    → length f'.missing ≤ most_missing
one_more f f' place more done =
    let room : nat_le most_missing (length f.missing) ≡ false =
    or_second (is_some f.broken) (nat_le most_missing (length f.missing)) (sym more) in
    let long : length f'.missing ≡ length (f.missing ++ place ∷ []) = ap (λ (x : Seen). length x.missing) done in
    omega (arith, below most_missing (length f.missing) room, long, length-append f.missing (place ∷ []))

-- a broken place is no missing one
pub same_missing : (f f' : Found) (place : Place) (fault : ShapeFault) → shown f' ≡ noted (shown f) (breaks place fault)
    → length f.missing ≤ most_missing → length f'.missing ≤ most_missing
same_missing f f' place fault done few = subst (λ (x : Seen). length x.missing ≤ most_missing) (sym done) few
