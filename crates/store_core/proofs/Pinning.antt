-- The open views with the headers of their ledgers, as the state goes on.
use Rattle.std.proofs.Common.{◌≡◌, ◌≢◌, ◌⊎◌, inl, inr, ⊎_elim, ℕ, Bool, true, false, is_some, if◌then◌else◌, List, [], ◌∷◌, ◌++◌}
use Rattle.std.proofs.Common.{map, Option, None, Some, IfSome, IsNone, Contains, refl, sym, ap, ◌∙◌, subst, cond}
use Rattle.std.specs.Prelude.{◌==◌, length, not}
use Rattle.std.specs.Option.{option_map, option_and_then}
use Rattle.std.specs.List.{All}
use Rattle.std.specs.Map.{values_of, keys_of, remove_entry}
use Rattle.std.specs.BTreeMap.{is_at}
use Rattle.std.proofs.lemmas.Bool.{false≢true}
use Rattle.std.specs.Ordering.{match_ordering, ordering_reverse, is_eq}
use Rattle.std.specs.declared.cmp.Ordering.{Ordering}
use Rattle.std.specs.declared.cmp.Ordering.TheVariants.{Less, Equal, Greater}
use Rattle.std.specs.FinMap as finite
use Rattle.std.proofs.lemmas.List.Elements.{Contains-append_left, Contains-append_right}
use Rattle.std.proofs.lemmas.List.Elements.{All-contains, All-weaker, All-contains_itself}
use Rattle.std.proofs.lemmas.Map.Views.{All-values-insert_entry, All-map-remove_entry}
use Rattle.ledger_spec.specs.declared.Kind.{Kind}
use Rattle.ledger_spec.specs.declared.Kind.TheVariants.{State as Accounts, Tx, Set}
use Rattle.ledger_spec.specs.Bytes.{Bytes, Hash, Half, Nodes}
use Rattle.ledger_spec.specs.Forms.{Held, header_of}
use Rattle.ledger_spec.specs.Header.{header_bytes}
use Rattle.ledger_spec.specs.Maps.{ForActor, numbered_cmp, get_in, has_in, insert_in, remove_in}
use Rattle.ledger_spec.specs.Reach.{root}
use Rattle.ledger_spec.specs.Spots.{header_in, header_root}
use Rattle.ledger_header.specs.Fields.{fields}
use Rattle.ledger_machine.specs.declared.commands.Command.{Command}
use Rattle.ledger_machine.specs.declared.commands.Command.TheVariants as command
use Rattle.ledger_machine.specs.declared.commands.Reply.{Reply}
use Rattle.ledger_machine.specs.declared.commands.Reply.TheVariants as says
use Rattle.ledger_machine.specs.declared.commands.ViewReply.{ViewReply}
use Rattle.ledger_machine.specs.declared.commands.ViewReply.TheVariants as view
use Rattle.ledger_machine.specs.State.{State, form_in, retained, roots, bases}
use Rattle.ledger_machine.specs.Reading.{view_root}
use Rattle.ledger_machine.specs.Views.{is_retained, view_reply, after_view, after_unview}
use Rattle.ledger_machine.specs.Steps.{IsAfter, Outcomes, own_forms, Step}
use Rattle.ledger_laws.proofs.shared.SoundSessions.{in_map}
use Rattle.ledger_laws.proofs.shared.SoundSteps.{outcome_cases}
use Rattle.ledger_laws.proofs.shared.SoundTables.{all_found}
use Rattle.ledger_laws.proofs.shared.SoundViews.{numbered_total}
use Rattle.ledger_laws.proofs.shared.Stored.{Goes, on, begun, swapped}
use Rattle.ledger_laws.proofs.shared.Going.{row_goes}
use Rattle.open_sessions.proofs.shared.Tables.{over_get, over_has, over_insert, over_remove, over_values}
use Rattle.core_machine.specs.Machines.{IsHeaderOf}
use Rattle.store_core.specs.Halls.{AreViews, root_of, root_by}
use Rattle.store_core.specs.declared.jobs.View.{View}
use Rattle.ledger_laws.proofs.shared.Views.{LeavesViews}
use Rattle.store_core.proofs.Sighting.{row_views, refused_view}

abbrev target_of : View → Hash
target_of v = v.target

-- the header of a view is stored under its ledger's hash
abbrev pub IsViewOf : State → View → Type 0
IsViewOf s v = IsHeaderOf s v.target v.header

-- the root of a view's map by its header is the state's
pub roots_same : (s : State) (views : ForActor View) (kind : Kind) (v : ℕ × ℕ) → AreViews s views
    → root_by views kind v ≡ view_root s kind v
roots_same s views kind v k = at (get_in numbered_cmp views v) refl
  where
    by_kind : (x : Kind) (w : View) → IsViewOf s w
        → Some (root_of x w.header) ≡ option_map (header_root x) (header_in (form_in s) w.target)
    by_kind Accounts w is = rw is.held (ap Some (sym is.reads.state_root))
    by_kind Tx w is = rw is.held (ap Some (sym is.reads.tx_root))
    by_kind Set w is = rw is.held refl

    pinned : get_in numbered_cmp s.views v ≡ option_map (λ w. w.target) (get_in numbered_cmp views v)
    pinned = ap (λ m. get_in numbered_cmp m v) (sym k.pins) ∙ over_get (λ (w : View). w.target) views v

    at : (o : Option View) → get_in numbered_cmp views v ≡ o → option_map (λ w. root_of kind w.header) o ≡ view_root s kind v
    at None e = sym (ap (option_and_then (λ t. option_map (header_root kind) (header_in (form_in s) t)))
        (pinned ∙ ap (option_map (λ (w : View). w.target)) e))
    at (Some w) e =
        by_kind kind w (found w e) ∙ sym (ap (option_and_then (λ t. option_map (header_root kind) (header_in (form_in s) t)))
        (pinned ∙ ap (option_map (λ (x : View). x.target)) e))
      where
        found : (w : View) → get_in numbered_cmp views v ≡ Some w → IsViewOf s w
        found w e = all_found (IsViewOf s) _ views w k.headers e

self_equal : (r : Ordering) → r ≡ ordering_reverse r → r ≡ Equal
self_equal Less e = absurd (let no : Less ≡ Greater = e in cc)
self_equal Equal e = refl
self_equal Greater e = absurd (let no : Greater ≡ Less = e in cc)

same_key : (x : ℕ × ℕ) → is_at (numbered_cmp x) x ≡ true
same_key x = ap is_eq (self_equal (numbered_cmp x x) (numbered_total.antisymm x x))

module _ {A : Type 0} where
  drop_first : (test : ℕ × ℕ → Bool) (e : (ℕ × ℕ) × A) (m : ForActor A) → test e.0 ≡ true → remove_entry test (e ∷ m) ≡ m
  drop_first test e m is = ap (λ b. cond b m (e ∷ remove_entry test m)) is

  keep_first : (test : ℕ × ℕ → Bool) (e : (ℕ × ℕ) × A) (m : ForActor A) → test e.0 ≡ false
      → remove_entry test (e ∷ m) ≡ e ∷ remove_entry test m
  keep_first test e m is = ap (λ b. cond b m (e ∷ remove_entry test m)) is

  -- an entry that is added and taken back leaves what was
  pub taken_back : (m : ForActor A) (x : ℕ × ℕ) (a : A) → get_in numbered_cmp m x ≡ None
      → remove_in numbered_cmp (insert_in numbered_cmp m x a) x ≡ m
  taken_back [] x a none = drop_first (is_at (numbered_cmp x)) (x, a) [] (same_key x)
  taken_back (e ∷ m) x a none = by (numbered_cmp x e.0) refl none (taken_back m x a)
    where
      by : (r : Ordering) → numbered_cmp x e.0 ≡ r → cond (is_eq r) (Some e.1) (get_in numbered_cmp m x) ≡ None
          → (get_in numbered_cmp m x ≡ None → remove_in numbered_cmp (insert_in numbered_cmp m x a) x ≡ m)
          → remove_in numbered_cmp (match_ordering r ((x, a) ∷ e ∷ m) ((e.0, a) ∷ m) (e ∷ insert_in numbered_cmp m x a)) x ≡ e ∷ m
      by Less is none rest = drop_first (is_at (numbered_cmp x)) (x, a) (e ∷ m) (same_key x)
      by Equal is none rest = absurd (let no : Some e.1 ≡ None = none in cc)
      by Greater is none rest =
          keep_first (is_at (numbered_cmp x)) e (insert_in numbered_cmp m x a) (ap is_eq is) ∙ ap (λ w. e ∷ w) (rest none)

module _ (half : Half) (s s' : State) (a : ℕ) (c : Command) (reply : Reply) (used : List Held) (o : Outcomes half s a c reply used s') where
  -- the form of a root stays
  form_stays : (t : Hash) (form : Bytes) → Contains (roots s) t → form_in s t ≡ Some form → form_in s' t ≡ Some form
  form_stays t form among e = at (row_goes half s a c reply used s' o)
    where
      at : Goes half c (own_forms half s a c) s s' → form_in s' t ≡ Some form
      at (on g) = g.stores.grows t form e
      at (begun st shades) = st.grows t form e
      at (swapped is w) = w.reached t (root among (form, e)) ∙ e

  header_stays : (t : Hash) (bytes : Bytes) → Contains (roots s) t → header_in (form_in s) t ≡ Some bytes
      → header_in (form_in s') t ≡ Some bytes
  header_stays t bytes among is = at (form_in s t) refl
    where
      at : (f : Option Bytes) → form_in s t ≡ f → header_in (form_in s') t ≡ Some bytes
      at None e = absurd (let no : None ≡ Some bytes = sym (ap (option_and_then header_of) e) ∙ is in cc)
      at (Some form) e =
          ap (option_and_then header_of) (form_stays t form among e) ∙ (sym (ap (option_and_then header_of) e) ∙ is)

  -- so do the headers of views
  pub headers_stay : (views : ForActor View) → AreViews s views → All (IsViewOf s') (values_of views)
  headers_stay views k =
      All-weaker (Contains (values_of views)) (IsViewOf s') stays (values_of views) (All-contains_itself (values_of views))
    where
      pinned : (v : View) → Contains (values_of views) v → Contains (roots s) v.target
      pinned v among =
          let named : Contains (map target_of (values_of views)) v.target =
          subst (λ (w : View). Contains (map target_of (values_of views)) w.target) among.2
          (in_map target_of (values_of views) among.0 v among.1) in
          let viewed : Contains (values_of s.views) v.target =
          subst (λ (m : ForActor Hash). Contains (values_of m) v.target) k.pins
          (subst (λ (ts : List Hash). Contains ts v.target) (sym (over_values target_of views)) named) in
          Contains-append_left (retained s) (keys_of s.wanted) v.target
          (Contains-append_left (keys_of s.listed ++ values_of s.views) (bases s) v.target
          (Contains-append_right (keys_of s.listed) (values_of s.views) v.target viewed))

      stays : (v : View) → Contains (values_of views) v → IsViewOf s' v
      stays v among =
          let is : IsViewOf s v = All-contains (IsViewOf s) (values_of views) v k.headers among in
          record { held = header_stays v.target (header_bytes (fields v.header)) (pinned v among) is.held; reads = is.reads }

-- a command that opens and ends no view leaves them
pub views_on : (half : Half) (s s' : State) (a : ℕ) (c : Command) (reply : Reply) (used : List Held) (views : ForActor View)
    → LeavesViews c → Outcomes half s a c reply used s' → AreViews s views → AreViews s' views
views_on half s s' a c reply used views leaves o k = record {
  pins = k.pins ∙ sym (row_views half s a c reply used s' leaves o);
  headers = headers_stay half s s' a c reply used o views k;
}

-- so does a section of one
pub views_kept : {X : Type 0} (o : Option X) (reply : X → Reply) (used : X → List Held) (half : Half) (s s' : State) (a : ℕ) (c : Command)
    (views : ForActor View) → LeavesViews c → IfSome o (λ r. Step half s a c (reply r) (used r) s') → (IsNone o → s' ≡ s) → AreViews s views
    → AreViews s' views
views_kept None reply used half s s' a c views leaves step same k = subst (λ (x : State). AreViews x views) (sym (same refl)) k
views_kept (Some r) reply used half s s' a c views leaves step same k =
    views_on half s s' a c (reply r) (used r) views leaves step.outcome k

-- `unview` is never refused
unviewed : (half : Half) (s s' : State) (a v : ℕ) (reply : Reply) (used : List Held) → Outcomes half s a (command.Unview v) reply used s'
    → IsAfter (after_unview s (a, v)) s'
unviewed half s s' a v says.Fault used o = absurd o.0
unviewed half s s' a v says.Memory used o = absurd o.0
unviewed half s s' a v (says.Clash h old new) used o = absurd o.0
unviewed half s s' a v (says.ZeroHash form) used o = absurd o.0
unviewed half s s' a v _ used o = o.after

-- it takes one entry out
pub views_less : (half : Half) (s s' : State) (a v : ℕ) (reply : Reply) (used : List Held) (views new : ForActor View)
    → Outcomes half s a (command.Unview v) reply used s' → new ≡ remove_in numbered_cmp views (a, v) → AreViews s views → AreViews s' new
views_less half s s' a v reply used views new o is k =
    subst (AreViews s') (sym is) (record {
      pins = over_remove (λ (w : View). w.target) views (a, v) ∙ ap (λ (m : ForActor Hash). remove_in numbered_cmp m (a, v)) k.pins
          ∙ sym (ap (λ (x : State). x.views) (unviewed half s s' a v reply used o));
      headers = All-map-remove_entry _ (λ e. e.1) (IsViewOf s') views
          (headers_stay half s s' a (command.Unview v) reply used o views k);
    })

-- a view that is opened is fine by its row, and the state is that with the view
fine_view : (half : Half) (s s' : State) (a v : ℕ) (t : Hash) (reply : Reply) (used : List Held)
    → Outcomes half s a (command.View v t) reply used s' → reply ≡ says.View view.Fine
    → (view_reply s (a, v) t ≡ view.Fine) × IsAfter (after_view s (a, v) t (view_reply s (a, v) t)) s'
fine_view half s s' a v t says.Fault used o e = absurd (let no : says.Fault ≡ says.View view.Fine = e in cc)
fine_view half s s' a v t says.Memory used o e = absurd (let no : says.Memory ≡ says.View view.Fine = e in cc)
fine_view half s s' a v t (says.Clash h old new) used o e = absurd (let no : says.Clash h old new ≡ says.View view.Fine = e in cc)
fine_view half s s' a v t (says.ZeroHash form) used o e = absurd (let no : says.ZeroHash form ≡ says.View view.Fine = e in cc)
fine_view half s s' a v t reply used o e =
    ((let is : says.View (view_reply s (a, v) t) ≡ says.View view.Fine = sym o.says ∙ e in cc), o.after)

-- else no view is opened
unfine_view : (half : Half) (s s' : State) (a v : ℕ) (t : Hash) (reply : Reply) (used : List Held)
    → Outcomes half s a (command.View v t) reply used s' → (reply ≡ says.View view.Fine → ⊥) → s'.views ≡ s.views
unfine_view half s s' a v t reply used o never =
    ⊎_elim (λ r. refused_view half s a (command.View v t) s' r)
    (λ g. by (view_reply s (a, v) t) (λ fine. never (g.says ∙ ap says.View fine)) g.after)
    (outcome_cases half s a (command.View v t) reply used s' o)
  where
    by : (r : ViewReply) → (r ≡ view.Fine → ⊥) → IsAfter (after_view s (a, v) t r) s' → s'.views ≡ s.views
    by view.Fine never e = absurd (never refl)
    by view.InUse never e = ap (λ (x : State). x.views) e
    by view.NotRetained never e = ap (λ (x : State). x.views) e
    by view.TooMany never e = ap (λ (x : State). x.views) e

-- where a view is open, or its ledger isn't retained, it isn't opened
pub not_fine : (s : State) (v : ℕ × ℕ) (t : Hash) → (has_in numbered_cmp s.views v ≡ true) ⊎ (is_retained s t ≡ false)
    → view_reply s v t ≡ view.Fine → ⊥
not_fine s v t why = at (has_in numbered_cmp s.views v) (is_retained s t) (length s.views == 1024) why
  where
    at : (x y z : Bool) → (x ≡ true) ⊎ (y ≡ false)
        → (if x then view.InUse else if not y then view.NotRetained else if z then view.TooMany else view.Fine) ≡ view.Fine → ⊥
    at true y z why e = let no : view.InUse ≡ view.Fine = e in cc
    at false false z why e = let no : view.NotRetained ≡ view.Fine = e in cc
    at false true z (inl is) e = let no : false ≡ true = is in cc
    at false true z (inr is) e = let no : true ≡ false = is in cc

pub views_unopened : (half : Half) (s s' : State) (a v : ℕ) (t : Hash) (reply : Reply) (used : List Held) (views : ForActor View)
    → Outcomes half s a (command.View v t) reply used s' → (view_reply s (a, v) t ≡ view.Fine → ⊥) → AreViews s views → AreViews s' views
views_unopened half s s' a v t reply used views o never k = record {
  pins = k.pins ∙ sym (unfine_view half s s' a v t reply used o (λ e. never (fine_view half s s' a v t reply used o e).0));
  headers = headers_stay half s s' a (command.View v t) reply used o views k;
}

-- a view that wasn't opened is taken back
pub views_back : (half : Half) (s s' : State) (a : ℕ) (v : ℕ) (w : View) (reply : Reply) (used : List Held) (views mid new : ForActor View)
    → Outcomes half s a (command.View v w.target) reply used s' → reply ≢ says.View view.Fine → get_in numbered_cmp views (a, v) ≡ None
    → mid ≡ insert_in numbered_cmp views (a, v) w → new ≡ remove_in numbered_cmp mid (a, v) → AreViews s views → AreViews s' new
views_back half s s' a v w reply used views mid new o never none put back k =
    subst (AreViews s') (sym (back ∙ ap (λ (m : ForActor View). remove_in numbered_cmp m (a, v)) put ∙ taken_back views (a, v) w none))
    (record {
      pins = k.pins ∙ sym (unfine_view half s s' a v w.target reply used o never);
      headers = headers_stay half s s' a (command.View v w.target) reply used o views k;
    })

-- one that was is there with its header
pub views_more : (half : Half) (s s' : State) (a v : ℕ) (w : View) (reply : Reply) (used : List Held) (views new : ForActor View)
    → Outcomes half s a (command.View v w.target) reply used s' → reply ≡ says.View view.Fine → IsViewOf s w
    → new ≡ insert_in numbered_cmp views (a, v) w → AreViews s views → AreViews s' new
views_more half s s' a v w reply used views new o fine is put k =
    subst (AreViews s') (sym put) (record {
      pins = over_insert (λ (x : View). x.target) views (a, v) w
          ∙ ap (λ (m : ForActor Hash). insert_in numbered_cmp m (a, v) w.target) k.pins
          ∙ sym (ap (λ (x : State). x.views) after);
      headers = All-values-insert_entry numbered_cmp (a, v) w (IsViewOf s') views
          (headers_stay half s s' a (command.View v w.target) reply used o views k) (record {
            held = ap (λ (n : Nodes). option_and_then header_of (finite.get n w.target)) (ap (λ (x : State). x.nodes) after) ∙ is.held;
            reads = is.reads;
          });
    })
  where
    both : (view_reply s (a, v) w.target ≡ view.Fine) × IsAfter (after_view s (a, v) w.target (view_reply s (a, v) w.target)) s'
    both = fine_view half s s' a v w.target reply used o fine

    after : IsAfter (after_view s (a, v) w.target view.Fine) s'
    after = subst (λ (r : ViewReply). IsAfter (after_view s (a, v) w.target r) s') both.0 both.1

-- a view that is open is so in the state
pub has_pinned : (s : State) (views : ForActor View) (v : ℕ × ℕ) → AreViews s views → has_in numbered_cmp views v ≡ true
    → has_in numbered_cmp s.views v ≡ true
has_pinned s views v k is =
    ap (λ (m : ForActor Hash). has_in numbered_cmp m v) (sym k.pins) ∙ (over_has (λ (w : View). w.target) views v ∙ is)

-- where a view may not be opened it isn't
pub unopenable : (s : State) (views : ForActor View) (v : ℕ × ℕ) (t : Hash) → AreViews s views
    → (has_in numbered_cmp views v ≡ true) ⊎ (is_retained s t ≡ false) → view_reply s v t ≡ view.Fine → ⊥
unopenable s views v t k why =
    not_fine s v t (⊎_elim (λ has. inl (has_pinned s views v k has)) (λ lost. inr lost) why)

pub none_of : {X : Type 0} (o : Option X) → is_some o ≡ false → o ≡ None
none_of None e = refl
none_of (Some x) e = absurd (false≢true (sym e))
