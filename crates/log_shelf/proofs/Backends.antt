-- What a backend's log holds after one entry more, and where its value stands.
use Rattle.std.proofs.Common.{◌≡◌, inl, inr, ◌∙◌, sym, ap, refl, subst, ℕ, ◌+◌, ◌≤◌, List, [], ◌∷◌, ◌++◌, length, take, drop, arith}
use Rattle.std.proofs.Common.{append_assoc, length-append, length-drop, Bool, true, false, cond, Option, Some, None}
use Rattle.std.specs.Option.{option_map}
use Rattle.std.specs.Ordering.{nat_cmp, eq_by_cmp}
use Rattle.std.specs.Cmp.Lexicographic.{slice_cmp, nat_list_cmp_total}
use Rattle.std.specs.FinMap as map
use Rattle.std.specs.FinMap.{get-insert, get-empty}
use Rattle.std.proofs.lemmas.List.{take_at, drop_at, take_all, take-append-le, drop-append-le, append-nil, length-take-le}
use Rattle.std.proofs.lemmas.Option.{none-some}
use Rattle.ledger_spec.specs.Bytes.{Bytes, Nodes}
use Rattle.node_backend.specs.Doubts.{Pair, MayDoubt}
use Rattle.log_shelf.specs.declared.index.Place64.{Place64}
use Rattle.log_shelf.specs.declared.disk.Disk.{Ghosts}
use Rattle.log_shelf.specs.declared.log.Log.{Log}
use Rattle.log_shelf.specs.Entries.{number_bytes, text_of, texts_of}
use Rattle.log_shelf.specs.Logs.{IsLog, told_entries, doubted, ReadsAs, MayDoubtEntry}
use Rattle.log_shelf.specs.Places.{Places, shown, Shows}
use Rattle.log_shelf.specs.Backends.{pair_of, nodes_after, nodes_of, held_in, pair_in_doubt, HoldsOrDoubts}
use Rattle.log_shelf.proofs.Entries.{length-number_bytes, texts_of-append}
use Rattle.log_shelf.proofs.Logs.{log-reads}

-- one entry more sets one pair
pub nodes_after-more : (held : Nodes) (es : List (List ℕ)) (e : List ℕ)
    → nodes_after held (es ++ e ∷ []) ≡ map.insert (nodes_after held es) (take 32 e) (drop 32 e)
nodes_after-more held [] e = refl
nodes_after-more held (x ∷ es) e = nodes_after-more (map.insert held (take 32 x) (drop 32 x)) es e

-- the bytes in front of the gate, with one entry more
pub front-more : (tail next : ℕ) (seen now : List ℕ) (doubt later : Bool) (was left : List ℕ → Type 0) (e : List ℕ)
    → IsLog tail doubt seen was → IsLog next later now left → told_entries next now ≡ told_entries tail seen ++ e ∷ []
    → take next now ≡ take tail seen ++ text_of e
front-more tail next seen now doubt later was left e log new told =
    sym new.whole ∙ (ap texts_of told ∙ (texts_of-append (told_entries tail seen) (e ∷ [])
    ∙ (ap (λ (x : List ℕ). x ++ texts_of (e ∷ [])) log.whole ∙ ap (λ (x : List ℕ). take tail seen ++ x) (append-nil (text_of e)))))

-- what stood at a place stands there still
shown-before : (front more : List ℕ) (place : Place64) → place.at + place.len ≤ length front
    → shown (front ++ more) place ≡ shown front place
shown-before front more place h =
    ap (take place.len) (drop-append-le place.at front more (omega arith))
    ∙ take-append-le place.len (drop place.at front) more (omega (arith, length-drop place.at front))

-- the value of the new entry stands behind its hash
shown-new : (front h form : List ℕ) (place : Place64) → length h ≡ 32 → place.at ≡ length front + 41 → place.len ≡ length form
    → shown (front ++ text_of (h ++ form)) place ≡ form
shown-new front h form place size at len =
    let head = 1 ∷ number_bytes (length (h ++ form)) ++ h in
    let split : front ++ text_of (h ++ form) ≡ (front ++ head) ++ form =
    ap (λ (x : List ℕ). front ++ 1 ∷ x) (sym (append_assoc (number_bytes (length (h ++ form))) h form))
    ∙ sym (append_assoc front head form) in
    let count : length (front ++ head) ≡ place.at =
    omega (
      arith,
      length-append front head,
      length-append (number_bytes (length (h ++ form))) h,
      length-number_bytes (length (h ++
          form)),
      size,
      at,
    ) in
    ap (take place.len) (ap (drop place.at) split ∙ drop_at (front ++ head) form place.at count)
    ∙ take_all place.len form (omega (arith, len))

still_shown : (front more : List ℕ) (found : Option Place64) → ((place : Place64) → found ≡ Some place
    → place.at + place.len ≤ length front)
    → option_map (shown (front ++ more)) found ≡ option_map (shown front) found
still_shown front more None within = refl
still_shown front more (Some place) within = ap Some (shown-before front more place (within place refl))

one_shown : (b : Bool) (file form : List ℕ) (place : Place64) (found : Option Place64) (held : Option Bytes)
    → shown file place ≡ form → option_map (shown file) found ≡ held
    → option_map (shown file) (cond b (Some place) found) ≡ cond b (Some form) held
one_shown true file form place found held new old = ap Some new
one_shown false file form place found held new old = old

one_within : (b : Bool) (n : ℕ) (new place : Place64) (found : Option Place64) → cond b (Some new) found ≡ Some place
    → new.at + new.len ≤ n
    → (found ≡ Some place → place.at + place.len ≤ n) → place.at + place.len ≤ n
one_within true n new place found is fits old = subst (λ (p : Place64). p.at + p.len ≤ n) (cc) fits
one_within false n new place found is fits old = old is

-- the places show what is held with the new pair
pub shows-more : (places : Places) (front h form : List ℕ) (held : Nodes) (place : Place64) → Shows places front held → length h ≡ 32
    → place.at ≡ length front + 41
    → place.len ≡ length form → Shows (map.insert places h place) (front ++ text_of (h ++ form)) (map.insert held h form)
shows-more places front h form held place shows size at len =
    let more = text_of (h ++ form) in
    record {
      finds = λ q. ap (option_map (shown (front ++ more))) (get-insert nat_list_cmp_total places h place q)
          ∙ (one_shown (eq_by_cmp (slice_cmp nat_cmp) q h) (front ++ more) form place (map.get places q) (map.get held q) (shown-new
          front h form place size at len)
          (still_shown front more (map.get places q) (shows.within q) ∙ shows.finds q)
          ∙ sym (get-insert nat_list_cmp_total held h form q));
      within = λ q p is. one_within (eq_by_cmp (slice_cmp nat_cmp) q h) (length (front ++ more)) place p (map.get places q) (sym
          (get-insert nat_list_cmp_total places h place q) ∙ is)
          (omega (
            arith,
            at,
            len,
            size,
            length-append front more,
            length-append (number_bytes (length (h ++ form))) (h ++ form),
            length-append h form,
            length-number_bytes (length (h ++ form)),
          ))
          (λ old. omega (arith, shows.within q p old, length-append front more));
    }

-- an entry in doubt is a pair in doubt
pub doubt-pair : (before now : Option (List ℕ)) (h form : List ℕ) → length h ≡ 32 → MayDoubtEntry before (h ++ form) now
    → MayDoubt (option_map pair_of before) (h, form) (option_map pair_of now)
doubt-pair before now h form size (inl none) = inl (ap (option_map pair_of) none)
doubt-pair before now h form size (inr (inl same)) = inr (inl (ap (option_map pair_of) same))
doubt-pair before now h form size (inr (inr one)) =
    inr (inr (ap (option_map pair_of) one ∙ ap (λ (p : Pair). Some p) (ap (λ (x : List ℕ). (x, drop 32 (h ++ form))) (take_at h form 32
    size)
    ∙ ap (λ (x : List ℕ). (h, x)) (drop_at h form 32 size))))

-- what is read of entries is what is read of pairs
reads_pairs : (file : List ℕ) (told : List (List ℕ)) (doubt : Option (List ℕ)) → ReadsAs file told doubt
    → HoldsOrDoubts file (nodes_of told) (option_map pair_of doubt)
reads_pairs file told doubt (inl same) = inl (ap nodes_of same)
reads_pairs file told None (inr more) = inl (ap nodes_of more)
reads_pairs file told (Some e) (inr more) = inr (ap nodes_of more ∙ nodes_after-more map.empty told e)

-- every outcome of a stop reads as what is held, or as that with the pair in doubt set
pub withstands : (tail : ℕ) (doubt : Bool) (seen : List ℕ) (may_leave : List ℕ → Type 0) (file : List ℕ)
    → IsLog tail doubt seen may_leave → may_leave file
    → HoldsOrDoubts file (held_in tail seen) (pair_in_doubt tail doubt seen)
withstands tail doubt seen may_leave file log left =
    reads_pairs file (told_entries tail seen) (doubted tail doubt seen) (log-reads tail doubt seen may_leave file log left)

-- a gate's place is how many bytes stand in front of it
pub length-front : (tail : ℕ) (doubt : Bool) (seen : List ℕ) (was : List ℕ → Type 0) → IsLog tail doubt seen was → was seen
    → length (take tail seen) ≡ tail
length-front tail doubt seen was log stays =
    let within = (log.images seen stays).within in
    length-take-le tail seen (omega arith)

-- the same of a log as code has it
pub log-withstands : {D : Type 0} {disk : Ghosts D} (log : Log D disk) (file : List ℕ) → disk.may_leave log.disk file
    → HoldsOrDoubts file (held_in log.tail (disk.seen log.disk)) (pair_in_doubt log.tail log.doubt (disk.seen log.disk))
log-withstands {D} {disk} log file left = withstands log.tail log.doubt (disk.seen log.disk) (disk.may_leave log.disk) file log.kept left

no_place : {P : Type 0} (found : Option Place64) (place : Place64) → found ≡ None → found ≡ Some place → P
no_place found place none some = absurd (none-some place (sym none ∙ some))

-- no place shows nothing
pub shows-empty : (places : Places) (front : List ℕ) (held : Nodes) → places ≡ map.empty → held ≡ map.empty → Shows places front held
shows-empty places front held none nothing = record {
  finds = λ h. ap (λ (m : Places). option_map (shown front) (map.get m h)) none
      ∙ (ap (option_map (shown front)) (get-empty {X = Place64} (slice_cmp nat_cmp) h) ∙ sym (ap (λ (m : Nodes). map.get m h) nothing
      ∙ get-empty {X = Bytes} (slice_cmp nat_cmp) h));
  within = λ h place is. no_place (map.get places h) place (ap (λ (m : Places). map.get m h) none
      ∙ get-empty {X = Place64} (slice_cmp nat_cmp) h) is;
}
