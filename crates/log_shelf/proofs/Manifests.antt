-- The live logs by the manifest, after each of a shelf's calls, answered or failed.
use Rattle.std.proofs.Common.{◌≡◌, ◌≢◌, ◌⊎◌, inl, inr, ◌≤◌, ◌<◌, ◌+◌, ◌^◌, ℕ, Bool, true, false, ◌||◌, List, [], ◌∷◌, ◌++◌}
use Rattle.std.proofs.Common.{length, Option, None, ◌&&◌}
use Rattle.std.proofs.Common.{◌==◌, IsTrue, refl, sym, subst, ap, ◌∙◌, arith, length-append}
use Rattle.std.specs.Prelude.{Vec}
use Rattle.std.specs.Vec.{vec_capacity}
use Rattle.std.specs.declared.alloc.Global.{Global}
use Rattle.std.proofs.lemmas.Bool.{eq-eqb}
use Rattle.node_backend.specs.Numbers.{is_among, exceeds, without}
use Rattle.node_backend.proofs.shared.Lists.{exceeds_without, below_among, exceeds_more, exceeds_append, among_append, among_last}
use Rattle.node_backend.proofs.shared.Lists.{among_without}
use Rattle.log_shelf.specs.Logs.{MayDoubtEntry, with_doubted, ReadsAs, told_entries, doubted}
use Rattle.log_shelf.specs.declared.disk.Disk.{Ghosts}
use Rattle.log_shelf.specs.declared.log.Log.{Log}
use Rattle.log_shelf.proofs.Logs.{log-reads}
use Rattle.log_shelf.specs.Manifests.{made_entry, gone_entry, live_of, AreLive, is_listed, NamesOnly, Manifested}
use Rattle.log_shelf.specs.Manifests.{FreshFailed}
use Rattle.run_io.specs.Bytes.{Rose}
use Rattle.log_shelf.proofs.Numbers.{noted-made, noted-gone, live_after-more, or_right, or_left, among_last_or, without_split, among-made}
use Rattle.log_shelf.proofs.Numbers.{above_zero, listed_in, named_in, doubt_names, doubt_keeps, kept_or_left, not_there}

-- a log was made
pub manifest-made : (live undone next : List ℕ) (made n : ℕ) (may may' : Bool) (told after : List (List ℕ)) (doubt later : Option (List ℕ))
    → Manifested live undone made may told doubt → n ≡ made + 1 → n < 2 ^ 64
    → next ≡ live ++ n ∷ [] → after ≡ told ++ made_entry n ∷ [] → later ≡ None → Manifested next undone n may' after later
manifest-made live undone next made n may may' told after doubt later m step small listed more none =
    let all : live_of after ≡ live_of told ++ n ∷ [] = ap live_of more ∙ (live_after-more [] told (made_entry n)
    ∙ noted-made (live_of told) n small) in
    let told_live : (k : ℕ) → IsTrue (is_among next k) → IsTrue (is_among (live_of after) k) =
    λ k h. subst (λ (xs : List ℕ). IsTrue (is_among xs k)) (sym all)
    (among-made live (live_of told) n k m.told_live (among_last_or n k live (subst (λ (xs : List ℕ). IsTrue (is_among xs k)) listed h))) in
    let more_live : (k : ℕ) → IsTrue (is_among live k) → IsTrue (is_among next k) =
    λ k l. subst (λ (xs : List ℕ). IsTrue (is_among xs k)) (sym listed) (among_append n k live l) in
    let mine : IsTrue (is_among next n) = subst (λ (xs : List ℕ). IsTrue (is_among xs n)) (sym listed) (among_last n live) in
    let told_named : (k : ℕ) → IsTrue (is_among (live_of after) k) → IsTrue (is_listed next undone k) =
    λ k h. elim (among_last_or n k (live_of told) (subst (λ (xs : List ℕ). IsTrue (is_among xs k)) all h)) [
      | inl old ↦ listed_in live undone next undone k (λ l. or_left (is_among next k) (is_among undone k) (more_live k l)) (λ u. u)
          (m.told_named k old)
      | inr is ↦ or_left (is_among next k) (is_among undone k) (subst (λ (j : ℕ). IsTrue (is_among next j)) is mine)
    ] in
    record {
      live_made = subst (λ (xs : List ℕ). IsTrue (exceeds (n + 1) xs)) (sym listed)
          (exceeds_append (n + 1) n live (exceeds_more (made + 1) (n + 1) live (omega arith) m.live_made) (omega arith));
      undone_made = exceeds_more (made + 1) (n + 1) undone (omega arith) m.undone_made;
      positive = λ k h. above_zero live made n k m.positive step (among_last_or n k live (subst (λ (xs : List ℕ). IsTrue (is_among xs
          k)) listed h));
      told_live = told_live;
      doubt_live = λ k h. subst (λ (d : Option (List ℕ)). IsTrue (is_among (live_of (with_doubted after d)) k)) (sym none) (told_live k h);
      told_named = told_named;
      doubt_named = λ k h. or_left (is_listed next undone k) (may' && (k == n + 1))
          (told_named k (subst (λ (d : Option (List ℕ)). IsTrue (is_among (live_of (with_doubted after d)) k)) none h));
    }

-- a log was not made
unmade : (live undone : List ℕ) (made n : ℕ) (told after : List (List ℕ)) (doubt later : Option (List ℕ))
    → Manifested live undone made true told doubt → n ≡ made + 1 → n < 2 ^ 64
    → after ≡ told → MayDoubtEntry doubt (made_entry n) later → Manifested live undone made true after later
unmade live undone made n told after doubt later m step small same may = record {
  live_made = m.live_made;
  undone_made = m.undone_made;
  positive = m.positive;
  told_live = λ k h. rw same (m.told_live k h);
  doubt_live = doubt_keeps live told after doubt later (made_entry n) m.told_live m.doubt_live
      (λ k h. rw (live_after-more [] told (made_entry n), noted-made (live_of told) n small) (among_append n k (live_of told)
      (m.told_live k h))) same may;
  told_named = λ k h. m.told_named k (subst (λ (es : List (List ℕ)). IsTrue (is_among (live_of es) k)) same h);
  doubt_named = doubt_names (λ k. IsTrue (is_listed live undone k || (k == made + 1))) told after doubt later (made_entry n)
      (λ k h. or_left (is_listed live undone k) (k == made + 1) (m.told_named k h)) m.doubt_named
      (λ k h. elim (among_last_or n k (live_of told) (subst (λ (xs : List ℕ). IsTrue (is_among xs k)) (live_after-more [] told (made_entry n)
      ∙ noted-made (live_of told) n small) h)) [
        | inl old ↦ or_left (is_listed live undone k) (k == made + 1) (m.told_named k old)
        | inr is ↦ or_right (is_listed live undone k) (k == made + 1) (eq-eqb k (made + 1) (sym is ∙ step))
      ]) same may;
}

pub manifest-unmade : (live undone : List ℕ) (made n : ℕ) (may : Bool) (told after : List (List ℕ)) (doubt later : Option (List ℕ))
    → Manifested live undone made may told doubt → may ≡ true → n ≡ made + 1 → n < 2 ^ 64
    → after ≡ told → MayDoubtEntry doubt (made_entry n) later → Manifested live undone made may after later
manifest-unmade live undone made n may told after doubt later m is step small same doubts =
    subst (λ (b : Bool). Manifested live undone made b after later) (sym is) (unmade live undone made n told after doubt later
    (subst (λ (b : Bool). Manifested live undone made b told doubt) is m) step small same doubts)

-- a log is gone, and its number was taken out
pub manifest-gone : (live undone next : List ℕ) (made n : ℕ) (may : Bool) (told after : List (List ℕ)) (doubt later : Option (List ℕ))
    → Manifested live undone made may told doubt → n < 2 ^ 64
    → next ≡ without live n → after ≡ told ++ gone_entry n ∷ [] → later ≡ None → Manifested next undone made may after later
manifest-gone live undone next made n may told after doubt later m small left more none =
    let all : live_of after ≡ without (live_of told) n = ap live_of more ∙ (live_after-more [] told (gone_entry n)
    ∙ noted-gone (live_of told) n small) in
    let told_live : (k : ℕ) → IsTrue (is_among next k) → IsTrue (is_among (live_of after) k) =
    λ k h. let i = without_split n k live (subst (λ (xs : List ℕ). IsTrue (is_among xs k)) left h) in
    subst (λ (xs : List ℕ). IsTrue (is_among xs k)) (sym all) (among_without n k (live_of told) i.1 (m.told_live k i.0)) in
    let told_named : (k : ℕ) → IsTrue (is_among (live_of after) k) → IsTrue (is_listed next undone k) =
    λ k h. let i = without_split n k (live_of told) (subst (λ (xs : List ℕ). IsTrue (is_among xs k)) all h) in
    listed_in live undone next undone k (λ l. or_left (is_among next k) (is_among undone k)
    (subst (λ (xs : List ℕ). IsTrue (is_among xs k)) (sym left) (among_without n k live i.1 l))) (λ u. u) (m.told_named k i.0) in
    record {
      live_made = subst (λ (xs : List ℕ). IsTrue (exceeds (made + 1) xs)) (sym left) (exceeds_without (made + 1) n live m.live_made);
      undone_made = m.undone_made;
      positive = λ k h. m.positive k (without_split n k live (subst (λ (xs : List ℕ). IsTrue (is_among xs k)) left h)).0;
      told_live = told_live;
      doubt_live = λ k h. subst (λ (d : Option (List ℕ)). IsTrue (is_among (live_of (with_doubted after d)) k)) (sym none) (told_live k h);
      told_named = told_named;
      doubt_named = λ k h. or_left (is_listed next undone k) (may && (k == made + 1))
          (told_named k (subst (λ (d : Option (List ℕ)). IsTrue (is_among (live_of (with_doubted after d)) k)) none h));
    }

-- its number was taken out, but the entry failed: the log is kept aside
pub manifest-kept : (live undone next aside : List ℕ) (made n : ℕ) (may : Bool) (told after : List (List ℕ)) (doubt later : Option (List ℕ))
    → Manifested live undone made may told doubt → n < 2 ^ 64
    → IsTrue (is_among live n) → next ≡ without live n → aside ≡ undone ++ n ∷ [] → after ≡ told → MayDoubtEntry doubt (gone_entry n) later
    → Manifested next aside made may after later
manifest-kept live undone next aside made n may told after doubt later m small among left kept same doubts =
    let fewer : (k : ℕ) → IsTrue (is_among next k) → IsTrue (is_among live k) × (k ≢ n) =
    λ k h. without_split n k live (subst (λ (xs : List ℕ). IsTrue (is_among xs k)) left h) in
    let listed : (k : ℕ) → IsTrue (is_listed live undone k) → IsTrue (is_listed next aside k) =
    λ k h. listed_in live undone next aside k (λ l. kept_or_left live next undone aside n k left kept l)
    (λ u. subst (λ (xs : List ℕ). IsTrue (is_among xs k)) (sym kept) (among_append n k undone u)) h in
    record {
      live_made = subst (λ (xs : List ℕ). IsTrue (exceeds (made + 1) xs)) (sym left) (exceeds_without (made + 1) n live m.live_made);
      undone_made = subst (λ (xs : List ℕ). IsTrue (exceeds (made + 1) xs)) (sym kept) (exceeds_append (made + 1) n undone m.undone_made
          (below_among (made + 1) n live m.live_made among));
      positive = λ k h. m.positive k (fewer k h).0;
      told_live = λ k h. rw same (m.told_live k (fewer k h).0);
      doubt_live = doubt_keeps next told after doubt later (gone_entry n) (λ k h. m.told_live k (fewer k h).0) (λ k h. m.doubt_live k
          (fewer k h).0)
          (λ k h. rw (live_after-more [] told (gone_entry n), noted-gone (live_of told) n small) (among_without n k (live_of told)
          (fewer k h).1 (m.told_live k (fewer k h).0))) same doubts;
      told_named = λ k h. listed k (m.told_named k (subst (λ (es : List (List ℕ)). IsTrue (is_among (live_of es) k)) same h));
      doubt_named = doubt_names (λ k. IsTrue (is_listed next aside k || (may && (k == made + 1)))) told after doubt later (gone_entry n)
          (λ k h. or_left (is_listed next aside k) (may && (k == made + 1)) (listed k (m.told_named k h)))
          (λ k h. named_in (is_listed live undone k) (is_listed next aside k) (may && (k == made + 1)) (listed k) (m.doubt_named k h))
          (λ k h. or_left (is_listed next aside k) (may && (k == made + 1)) (listed k (m.told_named k (without_split n k (live_of told)
          (subst (λ (xs : List ℕ). IsTrue (is_among xs k)) (live_after-more [] told (gone_entry n) ∙ noted-gone (live_of told) n small)
          h)).0))) same doubts;
    }

-- whatever a stop leaves of the manifest, the live logs are live in it
pub manifest-live : (live undone file : List ℕ) (made : ℕ) (may : Bool) (told : List (List ℕ)) (doubt : Option (List ℕ))
    → Manifested live undone made may told doubt → ReadsAs file told doubt → AreLive live file
manifest-live live undone file made may told doubt m (inl is) k h = rw is (m.told_live k h)
manifest-live live undone file made may told doubt m (inr is) k h = rw is (m.doubt_live k h)

-- and no others are
pub manifest-named : (live undone file : List ℕ) (made : ℕ) (may : Bool) (told : List (List ℕ)) (doubt : Option (List ℕ))
    → Manifested live undone made may told doubt → ReadsAs file told doubt → NamesOnly live undone may (made + 1) file
manifest-named live undone file made may told doubt m (inl is) k h =
    or_left (is_listed live undone k) (may && (k == made + 1))
    (m.told_named k (subst (λ (es : List (List ℕ)). IsTrue (is_among (live_of es) k)) is h))
manifest-named live undone file made may told doubt m (inr is) k h =
    m.doubt_named k (subst (λ (es : List (List ℕ)). IsTrue (is_among (live_of es) k)) is h)

-- there is room for all that may have to be kept aside, once a number was added
pub reserved-made : {X : Type 0} (spent kept : Vec X Global) (old : List X) (live base : Vec ℕ Global) (first next : List ℕ) (n : ℕ)
    → spent ≡ kept → kept.items ≡ old
    → length old + (length first + 1) ≤ vec_capacity kept → live ≡ base → base.items ≡ first → next ≡ live.items ++ n ∷ []
    → length spent.items + length next ≤ vec_capacity spent
reserved-made {X} spent kept old live base first next n p q room r s t =
    subst (λ (v : Vec X Global). length v.items + length next ≤ vec_capacity v) (sym p)
    (omega (arith, ap length q, ap (λ (v : Vec ℕ Global). length v.items) r, ap length s, ap length t, length-append live.items (n ∷ [])))

-- a number was taken out that was not there, or nothing was written down
pub manifest-left : (live undone next : List ℕ) (made n : ℕ) (may : Bool) (told : List (List ℕ)) (doubt : Option (List ℕ))
    → Manifested live undone made may told doubt → is_among live n ≡ false
    → next ≡ without live n → Manifested next undone made may told doubt
manifest-left live undone next made n may told doubt m none left =
    let fewer : (k : ℕ) → IsTrue (is_among next k) → IsTrue (is_among live k) =
    λ k h. (without_split n k live (subst (λ (xs : List ℕ). IsTrue (is_among xs k)) left h)).0 in
    let all : (k : ℕ) → IsTrue (is_listed live undone k) → IsTrue (is_listed next undone k) =
    λ k h. listed_in live undone next undone k (λ l. or_left (is_among next k) (is_among undone k)
    (subst (λ (xs : List ℕ). IsTrue (is_among xs k)) (sym left)
    (among_without n k live (λ (same : k ≡ n). not_there live n k none same l) l))) (λ u. u) h in
    record {
      live_made = subst (λ (xs : List ℕ). IsTrue (exceeds (made + 1) xs)) (sym left) (exceeds_without (made + 1) n live m.live_made);
      undone_made = m.undone_made;
      positive = λ k h. m.positive k (fewer k h);
      told_live = λ k h. m.told_live k (fewer k h);
      doubt_live = λ k h. m.doubt_live k (fewer k h);
      told_named = λ k h. all k (m.told_named k h);
      doubt_named = λ k h. named_in (is_listed live undone k) (is_listed next undone k) (may && (k == made + 1)) (all k) (m.doubt_named k h);
    }

-- the same of a manifest as code has it
pub log-live : {D : Type 0} {disk : Ghosts D} (live undone : List ℕ) (made : ℕ) (may : Bool) (log : Log D disk)
    → Manifested live undone made may (told_entries log.tail (disk.seen log.disk)) (doubted log.tail log.doubt (disk.seen log.disk))
    → (file : List ℕ) → disk.may_leave log.disk file → AreLive live file × NamesOnly live undone may (made + 1) file
log-live {D} {disk} live undone made may log m file left =
    let told = told_entries log.tail (disk.seen log.disk) in
    let doubt = doubted log.tail log.doubt (disk.seen log.disk) in
    let reads = log-reads log.tail log.doubt (disk.seen log.disk) (disk.may_leave log.disk) file log.kept left in (
      manifest-live live undone file made may told doubt m reads,
      manifest-named live undone file made may told doubt m reads,
    )

-- a count that rose since later rose since earlier
pub rose-later : (a b c : ℕ) → a ≤ b → Rose b c → Rose a c
rose-later a b c le (inl less) = inl (omega arith)
rose-later a b c le (inr last) = inr last

-- why the new log was not made
pub fresh-log : {B : Type 0} (room room' manifest manifest' made : ℕ) → Rose room room' ⊎ B
    → FreshFailed room room' manifest manifest' made B
fresh-log room room' manifest manifest' made (inl rose) = inl rose
fresh-log room room' manifest manifest' made (inr broken) = inr (inr (inr broken))

-- a shelf without logs
nothing : Manifested [] [] 0 true [] None
nothing = record {
  live_made = refl;
  undone_made = refl;
  positive = λ n h. absurd (cc);
  told_live = λ n h. absurd (cc);
  doubt_live = λ n h. absurd (cc);
  told_named = λ n h. absurd (cc);
  doubt_named = λ n h. absurd (cc);
}

pub manifest-new : (live undone : List ℕ) (told : List (List ℕ)) (doubt : Option (List ℕ)) → live ≡ [] → undone ≡ [] → told ≡ []
    → doubt ≡ None → Manifested live undone 0 true told doubt
manifest-new live undone told doubt l u t d =
    subst (λ (xs : List ℕ). Manifested xs undone 0 true told doubt) (sym l)
    (subst (λ (xs : List ℕ). Manifested [] xs 0 true told doubt) (sym u)
    (subst (λ (es : List (List ℕ)). Manifested [] [] 0 true es doubt) (sym t)
    (subst (λ (o : Option (List ℕ)). Manifested [] [] 0 true [] o) (sym d) nothing)))
