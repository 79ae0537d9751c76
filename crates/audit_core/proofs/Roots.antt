-- Two maps of a kind with one root are one, or their forms break the half.
use Rattle.std.proofs.Common.{◌≡◌, ◌⊎◌, inl, inr, ⊎_elim, ◌≤◌, ◌<◌, ◌+◌, ℕ, zero, suc, Bool, true, false, List, [], ◌∷◌, ◌++◌}
use Rattle.std.proofs.Common.{length, map, Some, refl, sym, ap, ◌∙◌, subst, arith, length-append, flat_map, bytes_eq}
use Rattle.std.proofs.lemmas.Bool.{false≢true}
use Rattle.std.proofs.lemmas.Slice.Eq.{bytes_eq-Decides}
use Rattle.std.proofs.lemmas.List.Elements.{Contains-append_left, Contains-append_right, Contains-append_cases}
use Rattle.std.specs.Ordering.{is_eq}
use Rattle.std.specs.List.{range_with_len, Contains, AllByRecursion}
use Rattle.std.specs.List.Sorted.{IsStrictlySortedBy}
use Rattle.nib_path.specs.Paths.{lies_under}
use Rattle.ledger_spec.specs.declared.Kind.{Kind}
use Rattle.ledger_spec.specs.Maps.{hash_cmp, IsMap}
use Rattle.ledger_spec.specs.Bytes.{Bytes, Hash, Half, Items, branches}
use Rattle.ledger_spec.specs.Forms.{leaf, IsHeld, inner_prefix, leaf_form, hash_or_zero}
use Rattle.ledger_spec.specs.Findings.{held_of}
use Rattle.ledger_spec.specs.Tree.{Entry, AreItems, part, is_alone, form_of_part, forms_of_part, forms_of, root_of}
use Rattle.ledger_spec.proofs.shared.Seeing.{sees}
use Rattle.tree_laws.proofs.shared.Trees.{Sized, at_itself, under_whole, each_in_part, alone_nil, leaf_no_inner, size_or_zero, concat_map}
use Rattle.tree_laws.proofs.shared.Trees.{sizes_map, hashes_are, hash_at_branch}
use Rattle.tree_laws.proofs.shared.Shapes.{key_size}
use Rattle.tree_laws.proofs.shared.Joins.{flat_same, in_head, in_range, join_has}
use Rattle.tree_laws.proofs.shared.MapPages.{map_kept, all_under, part_branches}
use Rattle.tree_laws.proofs.shared.ByteItems.{keys_of_items}
use Rattle.tree_laws.proofs.shared.Subtrees.{kid_forms, kid_form, inner_above, form_none, form_bottom, form_alone, form_fork, forms_bottom}
use Rattle.tree_laws.proofs.shared.Subtrees.{forms_alone, forms_fork, form_at_is}
use Rattle.audit_core.specs.Twins.{Collide, IsZeroHashed, IsBroken}

-- what breaks the half among some forms breaks it among more
pub broken_more : (half : Half) (few more : List Bytes) → ((form : Bytes) → Contains few form → Contains more form) → IsBroken half few
    → IsBroken half more
broken_more half few more in_more broken =
    ⊎_elim (λ (c : Collide half few). inl (record {
      one = c.one;
      other = c.other;
      first = in_more c.one c.first;
      second = in_more c.other c.second;
      different = c.different;
      same = c.same;
    })) (λ (z : IsZeroHashed half few). inr (record { form = z.form; has = in_more z.form z.has; zero = z.zero })) broken

-- all entries lie under the root's path
all_there : (m : Items) → part m [] ≡ m
all_there [] = refl
all_there (e ∷ m) = ap (λ (rest : Items). e ∷ rest) (all_there m)

-- two entries under a path of 64 nibbles don't rise
one_at_bottom : (path : List ℕ) (e : Entry) (others : Items) → length path ≡ 64 → IsMap hash_cmp (e ∷ others)
    → AllByRecursion (λ (x : Entry). length x.0 ≡ 32) (e ∷ others)
    → AllByRecursion (λ (x : Entry). lies_under path x.0 ≡ true) (e ∷ others) → others ≡ []
unfolding IsStrictlySortedBy
one_at_bottom path e [] deep sorted sizes under = refl
one_at_bottom path e (f ∷ others) deep sorted sizes under =
    let same : e.0 ≡ f.0 = under_whole path e.0 f.0 deep sizes.0 sizes.1.0 under.0 under.1.0 in
    let equal : is_eq (hash_cmp e.0 f.0) ≡ true = at_itself e.0 f.0 same in
    absurd (false≢true (sym (ap is_eq sorted.0.0) ∙ equal))

module _ (half : Half) (sized : Sized half) (kind : Kind) where
  -- a leaf's form has one entry
  leaf_same : (e f : Entry) → IsHeld half (leaf kind e.0 e.1) → IsHeld half (leaf kind f.0 f.1)
      → leaf_form kind e.0 e.1 ≡ leaf_form kind f.0 f.1 → e ≡ f
  leaf_same e f held other same =
      let one = sees half (leaf kind e.0 e.1) (leaf_form kind e.0 e.1) (held, refl) in
      let two = sees half (leaf kind f.0 f.1) (leaf_form kind f.0 f.1) (other, refl) in
      let both : Some (leaf kind e.0 e.1) ≡ Some (leaf kind f.0 f.1) = sym one ∙ ap (held_of half) same ∙ two in
      let keys : e.0 ≡ f.0 = cc in
      let bytes : e.1 ≡ f.1 = cc in
      λ i. (keys i, bytes i)

  -- the entries of a map's part
  record IsPart (m : Items) (path : List ℕ) (there : Items) : Type 0 where
    is : part m path ≡ there
    rising : IsMap hash_cmp there
    each : AllByRecursion (λ (e : Entry). IsHeld half (leaf kind e.0 e.1)) there
    under : AllByRecursion (λ (e : Entry). lies_under path e.0 ≡ true) there

  part_is : (m : Items) → AreItems half kind m → (path : List ℕ) → IsPart m path (part m path)
  part_is m are path = record {
    is = refl;
    rising = map_kept (λ (e : Entry). lies_under path e.0) m are.rising;
    each = each_in_part (λ (e : Entry). IsHeld half (leaf kind e.0 e.1)) (λ (e : Entry). lies_under path e.0) m are.each;
    under = all_under path m;
  }

  sizes : (there : Items) → AllByRecursion (λ (e : Entry). IsHeld half (leaf kind e.0 e.1)) there
      → AllByRecursion (λ (e : Entry). length e.0 ≡ 32) there
  sizes [] each = tt
  sizes (e ∷ there) each = (key_size half kind e.0 e.1 each.0, sizes there each.1)

  -- the form of a node, which is one of the forms at and below its path
  record Own (m : Items) (left : ℕ) (path : List ℕ) (e : Entry) (others : Items) : Type 0 where
    form : Bytes
    is : form_of_part half kind m left path (e ∷ others) ≡ Some form
    has : Contains (forms_of_part half kind m left path (e ∷ others)) form

  own : (m : Items) (left : ℕ) (path : List ℕ) (e : Entry) (others : Items) → Own m left path e others
  own m zero path e others = record {
    form = leaf_form kind e.0 e.1;
    is = form_bottom half kind m path e others;
    has = subst (λ (l : List Bytes). Contains l (leaf_form kind e.0 e.1)) (sym (forms_bottom half kind m path e others))
        (in_head (leaf_form kind e.0 e.1) []);
  }
  own m (suc left) path e others = by (is_alone path others) refl
    where
      by : (t : Bool) → is_alone path others ≡ t → Own m (suc left) path e others
      by true lone = record {
        form = leaf_form kind e.0 e.1;
        is = form_alone half kind m left path e others lone;
        has = subst (λ (l : List Bytes). Contains l (leaf_form kind e.0 e.1)) (sym (forms_alone half kind m left path e others lone))
            (in_head (leaf_form kind e.0 e.1) []);
      }
      by false more = record {
        form = inner_above half kind m left path;
        is = form_fork half kind m left path e others more;
        has = subst (λ (l : List Bytes). Contains l (inner_above half kind m left path))
            (sym (forms_fork half kind m left path e others more))
            (Contains-append_right (flat_map (kid_forms half kind m left path) branches) (inner_above half kind m left path ∷ [])
            (inner_above half kind m left path) (in_head (inner_above half kind m left path) []));
      }

  -- the forms at and below a branch are some of those at and below the node
  kids_within : (m : Items) (left : ℕ) (path : List ℕ) (e : Entry) (others : Items) → is_alone path others ≡ false → (b : ℕ) → b < 16
      → (form : Bytes) → Contains (kid_forms half kind m left path b) form
      → Contains (forms_of_part half kind m (suc left) path (e ∷ others)) form
  kids_within m left path e others more b low form has =
      subst (λ (l : List Bytes). Contains l form) (sym (forms_fork half kind m left path e others more))
      (Contains-append_left (flat_map (kid_forms half kind m left path) branches) (inner_above half kind m left path ∷ []) form
      (join_has (kid_forms half kind m left path) branches b form (in_range 16 0 b (omega arith) (omega arith)) has))

  -- inner nodes of one form have kids of one hash
  kids_same : (f g : ℕ → Hash) → ((b : ℕ) → length (f b) ≡ 32) → ((b : ℕ) → length (g b) ≡ 32)
      → inner_prefix ++ flat_map f branches ≡ inner_prefix ++ flat_map g branches → (b : ℕ) → b < 16 → f b ≡ g b
  kids_same f g size size' same b low =
      let joined : flat_map f branches ≡ flat_map g branches = cc in
      let are : map f branches ≡ map g branches =
      hashes_are g (map f branches) size' refl (sizes_map f branches size) (concat_map f branches ∙ joined) in
      sym (hash_at_branch f (map f branches) b low refl) ∙ hash_at_branch g (map f branches) b low are

  module _ (m n : Items) (are : AreItems half kind m) (be : AreItems half kind n) where
    -- the forms of both at and below a path
    abbrev Forms : ℕ → List ℕ → Items → Items → List Bytes
    Forms left path there other = forms_of_part half kind m left path there ++ forms_of_part half kind n left path other

    abbrev Same : ℕ → List ℕ → Items → Items → Type 0
    Same left path there other = (there ≡ other) ⊎ IsBroken half (Forms left path there other)

    abbrev HaveOneHash : ℕ → List ℕ → Items → Items → Type 0
    HaveOneHash left path there other =
        hash_or_zero half (form_of_part half kind m left path there) ≡ hash_or_zero half (form_of_part half kind n left path other)

    -- what holds of the branches of a node with so many levels below it
    abbrev Kids : ℕ → List ℕ → Type 0
    Kids zero path = Unit {0}
    Kids (suc left) path =
        (b : ℕ) → HaveOneHash left (path ++ b ∷ []) (part m (path ++ b ∷ [])) (part n (path ++ b ∷ []))
        → Same left (path ++ b ∷ []) (part m (path ++ b ∷ [])) (part n (path ++ b ∷ []))

    -- two leaves
    leaves : (path : List ℕ) (e f : Entry) (es fs : Items) → IsPart m path (e ∷ es) → IsPart n path (f ∷ fs) → es ≡ [] → fs ≡ []
        → leaf_form kind e.0 e.1 ≡ leaf_form kind f.0 f.1 → e ∷ es ≡ f ∷ fs
    leaves path e f es fs there other none none' same =
        let entries : e ≡ f = leaf_same e f there.each.0 other.each.0 same in
        let rests : es ≡ fs = none ∙ sym none' in
        λ i. entries i ∷ rests i

    -- two inner nodes, whose kids are the same or break the half
    forks : (left : ℕ) (path : List ℕ) (e f : Entry) (es fs : Items) → IsPart m path (e ∷ es) → IsPart n path (f ∷ fs)
        → length path < 64 → is_alone path es ≡ false → is_alone path fs ≡ false
        → inner_above half kind m left path ≡ inner_above half kind n left path
        → Kids (suc left) path → Same (suc left) path (e ∷ es) (f ∷ fs)
    forks left path e f es fs there other short more more' same kids =
        ⊎_elim (λ all. inl (sym there.is ∙ part_branches path m short are.rising (keys_of_items half kind m are.each are.bytes)
        ∙ flat_same (λ b. part m (path ++ b ∷ [])) (λ b. part n (path ++ b ∷ [])) branches all
        ∙ sym (part_branches path n short be.rising (keys_of_items half kind n be.each be.bytes)) ∙ other.is)) (λ broken. inr broken)
        (collect 16 0 (omega arith))
      where
        Kid : ℕ → Type 0
        Kid b = part m (path ++ b ∷ []) ≡ part n (path ++ b ∷ [])

        widen : (b : ℕ) → b < 16 → (form : Bytes)
            → Contains (Forms left (path ++ b ∷ []) (part m (path ++ b ∷ [])) (part n (path ++ b ∷ []))) form
            → Contains (Forms (suc left) path (e ∷ es) (f ∷ fs)) form
        widen b low form has =
            ⊎_elim
            (λ first. Contains-append_left (forms_of_part half kind m (suc left) path (e ∷ es)) (forms_of_part half kind n
            (suc left) path (f ∷ fs))
            form (kids_within m left path e es more b low form first))
            (λ second. Contains-append_right (forms_of_part half kind m (suc left) path (e ∷ es)) (forms_of_part half kind n (suc left) path
            (f ∷ fs)) form (kids_within n left path f fs more' b low form second))
            (Contains-append_cases (kid_forms half kind m left path b) (kid_forms half kind n left path b) form has)

        one : (b : ℕ) → b < 16 → Kid b ⊎ IsBroken half (Forms (suc left) path (e ∷ es) (f ∷ fs))
        one b low =
            ⊎_elim (λ is. inl is) (λ broken. inr (broken_more half (Forms left (path ++ b ∷ []) (part m (path ++ b ∷ [])) (part n
            (path ++ b ∷ [])))
            (Forms (suc left) path (e ∷ es) (f ∷ fs)) (widen b low) broken))
            (kids b (kids_same (λ c. hash_or_zero half (kid_form half kind m left path c)) (λ c. hash_or_zero half
            (kid_form half kind n left path c))
            (λ c. size_or_zero half sized (kid_form half kind m left path c)) (λ c. size_or_zero half sized
            (kid_form half kind n left path c))
            same b low))

        collect : (count from : ℕ) → from + count ≤ 16
            → AllByRecursion Kid (range_with_len from count) ⊎ IsBroken half (Forms (suc left) path (e ∷ es) (f ∷ fs))
        collect zero from within = inl tt
        collect (suc count) from within =
            ⊎_elim (λ here. ⊎_elim (λ rest. inl (here, rest)) (λ broken. inr broken) (collect count (from + 1) (omega arith)))
            (λ broken. inr broken) (one from (omega arith))

    -- two nodes of one form
    alike : (left : ℕ) (path : List ℕ) (e f : Entry) (es fs : Items) → IsPart m path (e ∷ es) → IsPart n path (f ∷ fs)
        → left + length path ≡ 64
        → form_of_part half kind m left path (e ∷ es) ≡ form_of_part half kind n left path (f ∷ fs)
        → Kids left path → Same left path (e ∷ es) (f ∷ fs)
    alike zero path e f es fs there other deep same kids =
        let both : Some (leaf_form kind e.0 e.1) ≡ Some (leaf_form kind f.0 f.1) =
        sym (form_bottom half kind m path e es) ∙ same ∙ form_bottom half kind n path f fs in
        let is : leaf_form kind e.0 e.1 ≡ leaf_form kind f.0 f.1 = cc in
        inl (leaves path e f es fs there other
        (one_at_bottom path e es (omega arith) there.rising (sizes (e ∷ es) there.each) there.under)
        (one_at_bottom path f fs (omega arith) other.rising (sizes (f ∷ fs) other.each) other.under) is)
    alike (suc left) path e f es fs there other deep same kids = by (is_alone path es) (is_alone path fs) refl refl
      where
        by : (t u : Bool) → is_alone path es ≡ t → is_alone path fs ≡ u → Same (suc left) path (e ∷ es) (f ∷ fs)
        by true true lone lone' =
            let both : Some (leaf_form kind e.0 e.1) ≡ Some (leaf_form kind f.0 f.1) =
            sym (form_alone half kind m left path e es lone) ∙ same ∙ form_alone half kind n left path f fs lone' in
            let is : leaf_form kind e.0 e.1 ≡ leaf_form kind f.0 f.1 = cc in
            inl (leaves path e f es fs there other (alone_nil path es lone) (alone_nil path fs lone') is)
        by true false lone more =
            let both : Some (leaf_form kind e.0 e.1) ≡ Some (inner_above half kind n left path) =
            sym (form_alone half kind m left path e es lone) ∙ same ∙ form_fork half kind n left path f fs more in
            let is : leaf_form kind e.0 e.1 ≡ inner_above half kind n left path = cc in
            absurd (leaf_no_inner kind e.0 e.1 _ is)
        by false true more lone =
            let both : Some (leaf_form kind f.0 f.1) ≡ Some (inner_above half kind m left path) =
            sym (form_alone half kind n left path f fs lone) ∙ sym same ∙ form_fork half kind m left path e es more in
            let is : leaf_form kind f.0 f.1 ≡ inner_above half kind m left path = cc in
            absurd (leaf_no_inner kind f.0 f.1 _ is)
        by false false more more' =
            let both : Some (inner_above half kind m left path) ≡ Some (inner_above half kind n left path) =
            sym (form_fork half kind m left path e es more) ∙ same ∙ form_fork half kind n left path f fs more' in
            let is : inner_above half kind m left path ≡ inner_above half kind n left path = cc in
            forks left path e f es fs there other (omega arith) more more' is kids

    -- two nodes of one hash
    nodes : (left : ℕ) (path : List ℕ) (there other : Items) → IsPart m path there → IsPart n path other → left + length path ≡ 64
        → HaveOneHash left path there other → Kids left path → Same left path there other
    nodes left path [] [] is is' deep hash kids = inl refl
    nodes left path [] (f ∷ fs) is is' deep hash kids =
        let o : Own n left path f fs = own n left path f fs in
        inr (inr (record {
          form = o.form;
          has = Contains-append_right (forms_of_part half kind m left path []) (forms_of_part half kind n left path (f ∷ fs)) o.form o.has;
          zero = sym (ap (hash_or_zero half) o.is) ∙ sym hash ∙ ap (hash_or_zero half) (form_none half kind m left path);
        }))
    nodes left path (e ∷ es) [] is is' deep hash kids =
        let o : Own m left path e es = own m left path e es in
        inr (inr (record {
          form = o.form;
          has = Contains-append_left (forms_of_part half kind m left path (e ∷ es)) (forms_of_part half kind n left path []) o.form o.has;
          zero = sym (ap (hash_or_zero half) o.is) ∙ hash ∙ ap (hash_or_zero half) (form_none half kind n left path);
        }))
    nodes left path (e ∷ es) (f ∷ fs) is is' deep hash kids = by (own m left path e es) (own n left path f fs)
      where
        by : Own m left path e es → Own n left path f fs → Same left path (e ∷ es) (f ∷ fs)
        by x y = by_test (bytes_eq x.form y.form) refl
          where
            by_test : (t : Bool) → bytes_eq x.form y.form ≡ t → Same left path (e ∷ es) (f ∷ fs)
            by_test true same =
                alike left path e f es fs is is' deep (x.is ∙ ap Some ((bytes_eq-Decides x.form y.form).0 same) ∙ sym y.is) kids
            by_test false differ =
                inr (inl (record {
                  one = x.form;
                  other = y.form;
                  first = Contains-append_left (forms_of_part half kind m left path (e ∷ es))
                      (forms_of_part half kind n left path (f ∷ fs)) x.form x.has;
                  second = Contains-append_right (forms_of_part half kind m left path (e ∷ es))
                      (forms_of_part half kind n left path (f ∷ fs)) y.form y.has;
                  different = λ eq. false≢true (sym differ ∙ (bytes_eq-Decides x.form y.form).1 eq);
                  same = sym (ap (hash_or_zero half) x.is) ∙ hash ∙ ap (hash_or_zero half) y.is;
                }))

    -- at any path
    twins : (left : ℕ) (path : List ℕ) → left + length path ≡ 64 → HaveOneHash left path (part m path) (part n path)
        → Same left path (part m path) (part n path)
    twins zero path deep hash = nodes zero path (part m path) (part n path) (part_is m are path) (part_is n be path) deep hash tt
    twins (suc left) path deep hash =
        nodes (suc left) path (part m path) (part n path) (part_is m are path) (part_is n be path) deep hash
        (λ b next. twins left (path ++ b ∷ []) (omega (arith, length-append path (b ∷ []))) next)

    -- the whole maps
    pub one_map : root_of half kind m ≡ root_of half kind n → (m ≡ n) ⊎ IsBroken half (forms_of half kind m ++ forms_of half kind n)
    one_map same =
        ⊎_elim (λ is. inl (sym (all_there m) ∙ is ∙ all_there n)) (λ broken. inr broken) (twins 64 [] refl (sym (top m) ∙ same ∙ top n))
      where
        top : (l : Items) → root_of half kind l ≡ hash_or_zero half (form_of_part half kind l 64 [] (part l []))
        top l = ap (hash_or_zero half) (form_at_is half kind l 64 [] refl)
