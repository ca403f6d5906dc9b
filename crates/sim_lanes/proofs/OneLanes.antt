-- Each kind of step on a lane keeps its rule: m gives the words before the step and m' after it.
use Rattle.std.proofs.Common.{◌≡◌, ◌≢◌, ℕ, ℤ, suc, ◌+◌, ◌%◌, ◌<◌, ◌≤◌, ◌^◌, List, [], ◌∷◌, ◌++◌, length, Some, None, rules, sym, refl, ap, ◌∙◌, subst, arith, length-append, append_assoc, to_z, w64, ◌⊎◌, ⊎_elim, inl, inr}
use Rattle.std.proofs.Math.Nat.{mod-lt}
use Rattle.std.specs.List.{All}
use Rattle.std.proofs.lemmas.List.Elements.{All-append, All-cons, All-tail}
use Rattle.atomic_table.proofs.Lists.{one_turn}
use Rattle.sim_types.specs.declared.setup.Post.{Post}
use Rattle.sim_lanes.specs.Places.{cell, width}
use Rattle.sim_lanes.specs.Steps.{post_of, saw_head, wrote_port, wrote_value, posted_next, saw_tail, read_port, read_value, took_next, HasRoom, HasWaiting}
use Rattle.sim_lanes.specs.LaneRule.{IsPostAt, AreInCells, OneLane, IsPort, first_port, first_value}
use Rattle.sim_lanes.specs.declared.view.PosterView.{PosterView}
use Rattle.sim_lanes.specs.declared.view.LaneView.{LaneView}

none_is_not : (n : ℕ) → None ≢ Some n
none_is_not n e = grind rules

none_is_no_value : (b : ℤ) → None ≢ Some b
none_is_no_value b e = grind rules

pub one_port : (n k : ℕ) → Some n ≡ Some k → n ≡ k
one_port n k e = grind rules

pub one_value : (b c : ℤ) → Some b ≡ Some c → b ≡ c
one_value b c e = grind rules

-- the words of the lane are as before
abbrev pub Same : (ℕ → ℕ) → (ℕ → ℕ) → ℕ → ℕ → Type 0
Same m m' place capacity = (j : ℕ) → place ≤ j → j < place + width capacity → m' j ≡ m j

-- but for the word i
abbrev pub SameBut : (ℕ → ℕ) → (ℕ → ℕ) → ℕ → ℕ → ℕ → Type 0
SameBut m m' place capacity i = (j : ℕ) → place ≤ j → j < place + width capacity → j ≢ i → m' j ≡ m j

-- the cell c is as before
abbrev SameCell : (ℕ → ℕ) → (ℕ → ℕ) → ℕ → Type 0
SameCell m m' c = (m' c ≡ m c) × (m' (c + 1) ≡ m (c + 1))

-- a cell's words lie in the lane
pub cell_within : (place capacity k : ℕ) → 0 < capacity → (place + 2 ≤ cell place capacity k) × (cell place capacity k + 1 < place + width capacity)
cell_within place capacity k some_room = let l = mod-lt k some_room in (omega arith, omega arith)

-- two posts less than a turn apart have two cells
cells_apart : (place capacity j k : ℕ) → j < k → k < j + capacity → cell place capacity j ≢ cell place capacity k
cells_apart place capacity j k less near e =
    let same : j % capacity ≡ k % capacity = omega (arith, e) in
    let one = one_turn j k capacity (omega arith) near same in omega (arith, one)

cells_same : (m m' : ℕ → ℕ) (place capacity k : ℕ) (xs : List Post)
    → ((j : ℕ) → k ≤ j → j < k + length xs → SameCell m m' (cell place capacity j))
    → AreInCells m place capacity k xs → AreInCells m' place capacity k xs
cells_same m m' place capacity k [] same h = tt
cells_same m m' place capacity k (x ∷ xs) same h =
    let here = same k (omega arith) (omega arith) in
    ((here.0 ∙ h.0.0, ap (to_z w64) here.1 ∙ h.0.1), cells_same m m' place capacity (suc k) xs (λ j low high. same j (omega arith) (omega arith)) h.1)

-- the cell behind them holds one post more
cells_snoc : (m : ℕ → ℕ) (place capacity k n : ℕ) (xs : List Post) (x : Post) → n ≡ k + length xs → IsPostAt m (cell place capacity n) x
    → AreInCells m place capacity k xs → AreInCells m place capacity k (xs ++ x ∷ [])
cells_snoc m place capacity k n [] x e a h =
    let e' : n ≡ k = omega (arith, e) in (subst (λ (i : ℕ). IsPostAt m (cell place capacity i) x) e' a, tt)
cells_snoc m place capacity k n (y ∷ ys) x e a h = (h.0, cells_snoc m place capacity (suc k) n ys x (omega (arith, e)) a h.1)

cell_same : (m m' : ℕ → ℕ) (place capacity k : ℕ) → 0 < capacity → Same m m' place capacity → SameCell m m' (cell place capacity k)
cell_same m m' place capacity k some_room same =
    let w = cell_within place capacity k some_room in let w0 = w.0 in let w1 = w.1 in
    (same (cell place capacity k) (omega arith) (omega arith), same (cell place capacity k + 1) (omega arith) (omega arith))

-- a step on the head or the tail changes no cell
cell_kept : (m m' : ℕ → ℕ) (place capacity i k : ℕ) → 0 < capacity → i < place + 2 → SameBut m m' place capacity i → SameCell m m' (cell place capacity k)
cell_kept m m' place capacity i k some_room low same =
    let w = cell_within place capacity k some_room in let w0 = w.0 in let w1 = w.1 in
    (same (cell place capacity k) (omega arith) (omega arith) (λ x. omega (arith, x)), same (cell place capacity k + 1) (omega arith) (omega arith) (λ x. omega (arith, x)))

-- where the poster may write, the cell at the tail is none of those that wait
waiting_kept : (m m' : ℕ → ℕ) (place capacity i k t : ℕ) (xs : List Post) → 0 < capacity
    → SameBut m m' place capacity i → (i ≡ cell place capacity t) ⊎ (i ≡ cell place capacity t + 1)
    → k + length xs ≡ t → t < k + capacity
    → AreInCells m place capacity k xs → AreInCells m' place capacity k xs
waiting_kept m m' place capacity i k t xs some_room same is e near h =
    cells_same m m' place capacity k xs (λ j low high.
    let w = cell_within place capacity j some_room in let w0 = w.0 in let w1 = w.1 in
    let apart = cells_apart place capacity j t (omega arith) (omega arith) in
    let first : cell place capacity j ≢ i = λ x. ⊎_elim (λ y. apart (x ∙ y))
    (λ y. let z : cell place capacity j ≡ cell place capacity t + 1 = x ∙ y in omega (arith, z)) is in
    let second : cell place capacity j + 1 ≢ i = λ x. ⊎_elim
    (λ y. let z : cell place capacity j + 1 ≡ cell place capacity t = x ∙ y in omega (arith, z))
    (λ y. let z : cell place capacity j + 1 ≡ cell place capacity t + 1 = x ∙ y in apart (omega (arith, z))) is in
    (same (cell place capacity j) (omega arith) (omega arith) first, same (cell place capacity j + 1) (omega arith) (omega arith) second)) h

module _ (m m' : ℕ → ℕ) (place capacity : ℕ) (poster : PosterView) (taker : LaneView) where
  -- no word of the lane has changed
  pub unchanged : Same m m' place capacity → OneLane m place capacity poster taker → OneLane m' place capacity poster taker
  unchanged same h =
      let cells : (k : ℕ) → SameCell m m' (cell place capacity k) = λ k. cell_same m m' place capacity k h.some_room same in
      let some_room = h.some_room in
      record {
        waiting = h.waiting;
        posted = h.posted;
        head = same place (omega arith) (omega arith) ∙ h.head;
        tail = same (place + 1) (omega arith) (omega arith) ∙ h.tail;
        cells = cells_same m m' place capacity (length taker.taken) h.waiting (λ j low high. cells j) h.cells;
        ports = h.ports;
        some_room = h.some_room;
        room = h.room;
        few = h.few;
        capacity_known = h.capacity_known;
        head_seen = h.head_seen;
        tail_seen = h.tail_seen;
        port_written = λ a e. let w = h.port_written a e in ((cells (length poster.posted)).0 ∙ w.0, w.1, w.2);
        value_written = λ b e. let w = h.value_written b e in (ap (to_z w64) (cells (length poster.posted)).1 ∙ w.0, w.1);
        port_read = h.port_read;
        value_read = h.value_read;
      }

  -- 2: the poster stores the port of its next post
  pub port_stored : (n : ℕ) → SameBut m m' place capacity (cell place capacity (length poster.posted)) → m' (cell place capacity (length poster.posted)) ≡ n
      → n < 2 ^ 32 → HasRoom poster → OneLane m place capacity poster taker → OneLane m' place capacity (wrote_port poster n) taker
  port_stored n same now small has_room h =
      let t : ℕ = length poster.posted in
      let len : length poster.posted ≡ length taker.taken + length h.waiting = ap length h.posted ∙ length-append taker.taken h.waiting in
      let some_room = h.some_room in let seen = h.head_seen in let known = h.capacity_known in
      let w = cell_within place capacity t some_room in let w0 = w.0 in let w1 = w.1 in
      record {
        waiting = h.waiting;
        posted = h.posted;
        head = same place (omega arith) (omega arith) (λ x. omega (arith, x)) ∙ h.head;
        tail = same (place + 1) (omega arith) (omega arith) (λ x. omega (arith, x)) ∙ h.tail;
        cells = waiting_kept m m' place capacity (cell place capacity t) (length taker.taken) t h.waiting some_room same (inl refl) (sym len) (omega arith) h.cells;
        ports = h.ports;
        some_room = h.some_room;
        room = h.room;
        few = h.few;
        capacity_known = h.capacity_known;
        head_seen = h.head_seen;
        tail_seen = h.tail_seen;
        port_written = λ a e. let is = one_port n a e in (now ∙ is, subst (λ (k : ℕ). k < 2 ^ 32) is small, has_room);
        value_written = λ b e. let x = h.value_written b e in
            (ap (to_z w64) (same (cell place capacity t + 1) (omega arith) (omega arith) (λ y. omega (arith, y))) ∙ x.0, x.1);
        port_read = h.port_read;
        value_read = h.value_read;
      }

  -- 2: the poster stores the value of its next post
  pub value_stored : (n : ℕ) → SameBut m m' place capacity (cell place capacity (length poster.posted) + 1)
      → m' (cell place capacity (length poster.posted) + 1) ≡ n → HasRoom poster
      → OneLane m place capacity poster taker → OneLane m' place capacity (wrote_value poster (to_z w64 n)) taker
  value_stored n same now has_room h =
      let t : ℕ = length poster.posted in
      let len : length poster.posted ≡ length taker.taken + length h.waiting = ap length h.posted ∙ length-append taker.taken h.waiting in
      let some_room = h.some_room in let seen = h.head_seen in let known = h.capacity_known in
      let w = cell_within place capacity t some_room in let w0 = w.0 in let w1 = w.1 in
      record {
        waiting = h.waiting;
        posted = h.posted;
        head = same place (omega arith) (omega arith) (λ x. omega (arith, x)) ∙ h.head;
        tail = same (place + 1) (omega arith) (omega arith) (λ x. omega (arith, x)) ∙ h.tail;
        cells = waiting_kept m m' place capacity (cell place capacity t + 1) (length taker.taken) t h.waiting some_room same (inr refl) (sym len) (omega arith) h.cells;
        ports = h.ports;
        some_room = h.some_room;
        room = h.room;
        few = h.few;
        capacity_known = h.capacity_known;
        head_seen = h.head_seen;
        tail_seen = h.tail_seen;
        port_written = λ a e. let x = h.port_written a e in
            (same (cell place capacity t) (omega arith) (omega arith) (λ y. omega (arith, y)) ∙ x.0, x.1, x.2);
        value_written = λ b e. (ap (to_z w64) now ∙ one_value (to_z w64 n) b e, has_room);
        port_read = h.port_read;
        value_read = h.value_read;
      }

first_port_snoc : (xs : List Post) (x : Post) (a : ℕ) → first_port xs ≡ Some a → first_port (xs ++ x ∷ []) ≡ Some a
first_port_snoc [] x a e = absurd (none_is_not a e)
first_port_snoc (y ∷ ys) x a e = e

first_value_snoc : (xs : List Post) (x : Post) (b : ℤ) → first_value xs ≡ Some b → first_value (xs ++ x ∷ []) ≡ Some b
first_value_snoc [] x b e = absurd (none_is_no_value b e)
first_value_snoc (y ∷ ys) x b e = e

module _ (m m' : ℕ → ℕ) (place capacity : ℕ) (poster : PosterView) (taker : LaneView) where
  -- 3: the poster stores the tail, behind the post x that it has written
  pub tail_stored : (a : ℕ) (b : ℤ) → SameBut m m' place capacity (place + 1) → m' (place + 1) ≡ length poster.posted + 1
      → poster.port ≡ Some a → poster.value ≡ Some b → length poster.posted + 1 < 2 ^ 32
      → OneLane m place capacity poster taker → OneLane m' place capacity (posted_next poster) taker
  tail_stored a b same now port value fits h =
      let t : ℕ = length poster.posted in
      let x : Post = record { port = a; value = b } in
      let len : length poster.posted ≡ length taker.taken + length h.waiting = ap length h.posted ∙ length-append taker.taken h.waiting in
      let some_room = h.some_room in let seen = h.head_seen in let known = h.capacity_known in
      let here = h.port_written a port in let room_now : HasRoom poster = here.2 in
      let there = h.value_written b value in
      let cells : (k : ℕ) → SameCell m m' (cell place capacity k) = λ k. cell_kept m m' place capacity (place + 1) k some_room (omega arith) same in
      let added : posted_next poster ≡ record poster { posted = poster.posted ++ x ∷ []; port = None; value = None } =
      λ k. record poster { posted = poster.posted ++ post_of (port k) (value k); port = None; value = None } in
      let more : length (poster.posted ++ x ∷ []) ≡ length poster.posted + 1 = length-append poster.posted (x ∷ []) in
      subst (λ (v : PosterView). OneLane m' place capacity v taker) (sym added) (record {
        waiting = h.waiting ++ x ∷ [];
        posted = ap (λ (l : List Post). l ++ x ∷ []) h.posted ∙ append_assoc taker.taken h.waiting (x ∷ []);
        head = same place (omega arith) (omega arith) (λ y. omega (arith, y)) ∙ h.head;
        tail = now ∙ sym more;
        cells = cells_snoc m' place capacity (length taker.taken) t h.waiting x len
            ((cells t).0 ∙ here.0, ap (to_z w64) (cells t).1 ∙ there.0)
            (cells_same m m' place capacity (length taker.taken) h.waiting (λ j low high. cells j) h.cells);
        ports = All-append IsPort h.waiting (x ∷ []) h.ports (All-cons IsPort x [] here.1 (λ k d l. absurd (omega arith)));
        some_room = h.some_room;
        room = omega (arith, length-append h.waiting (x ∷ []));
        few = omega (arith, more, fits);
        capacity_known = h.capacity_known;
        head_seen = h.head_seen;
        tail_seen = let old = h.tail_seen in omega (arith, more);
        port_written = λ n e. absurd (none_is_not n e);
        value_written = λ n e. absurd (none_is_no_value n e);
        port_read = λ n e. let r = h.port_read n e in (first_port_snoc h.waiting x n r.0, r.1);
        value_read = λ n e. let r = h.value_read n e in (first_value_snoc h.waiting x n r.0, r.1);
      })

module _ (m : ℕ → ℕ) (place capacity : ℕ) (poster : PosterView) (taker : LaneView) where
  -- 1: the poster loads the head
  pub head_loaded : (n : ℕ) → n ≡ m place → OneLane m place capacity poster taker → OneLane m place capacity (saw_head poster n) taker
  head_loaded n found h =
      let is : n ≡ length taker.taken = found ∙ h.head in
      let seen = h.head_seen in
      record {
        waiting = h.waiting;
        posted = h.posted;
        head = h.head;
        tail = h.tail;
        cells = h.cells;
        ports = h.ports;
        some_room = h.some_room;
        room = h.room;
        few = h.few;
        capacity_known = h.capacity_known;
        head_seen = omega (arith, is);
        tail_seen = h.tail_seen;
        port_written = λ a e. let w = h.port_written a e in let w2 : HasRoom poster = w.2 in (w.0, w.1, omega (arith, is, w2));
        value_written = λ b e. let w = h.value_written b e in let w1 : HasRoom poster = w.1 in (w.0, omega (arith, is, w1));
        port_read = h.port_read;
        value_read = h.value_read;
      }

  -- 4: the taker loads the tail
  pub tail_loaded : (n : ℕ) → n ≡ m (place + 1) → OneLane m place capacity poster taker → OneLane m place capacity poster (saw_tail taker n)
  tail_loaded n found h =
      let is : n ≡ length poster.posted = found ∙ h.tail in
      let seen = h.tail_seen in
      record {
        waiting = h.waiting;
        posted = h.posted;
        head = h.head;
        tail = h.tail;
        cells = h.cells;
        ports = h.ports;
        some_room = h.some_room;
        room = h.room;
        few = h.few;
        capacity_known = h.capacity_known;
        head_seen = h.head_seen;
        tail_seen = omega (arith, is);
        port_written = h.port_written;
        value_written = h.value_written;
        port_read = λ a e. let r = h.port_read a e in let r1 : HasWaiting taker = r.1 in (r.0, omega (arith, is, r1));
        value_read = λ b e. let r = h.value_read b e in let r1 : HasWaiting taker = r.1 in (r.0, omega (arith, is, r1));
      }

  first_in_cell : (k : ℕ) (xs : List Post) → 0 < length xs → All IsPort xs → AreInCells m place capacity k xs
      → (first_port xs ≡ Some (m (cell place capacity k))) × (first_value xs ≡ Some (to_z w64 (m (cell place capacity k + 1)))) × (m (cell place capacity k) < 2 ^ 32)
  first_in_cell k [] some ports h = absurd (omega arith)
  first_in_cell k (x ∷ xs) some ports h =
      (ap Some (sym h.0.0), ap Some (sym h.0.1), subst (λ (n : ℕ). n < 2 ^ 32) (sym h.0.0) (ports 0 x (omega arith)))

  -- the cell at the head holds the first post that waits
  pub first_waiting : HasWaiting taker → (h : OneLane m place capacity poster taker)
      → (first_port h.waiting ≡ Some (m (cell place capacity (length taker.taken))))
      × (first_value h.waiting ≡ Some (to_z w64 (m (cell place capacity (length taker.taken) + 1))))
      × (m (cell place capacity (length taker.taken)) < 2 ^ 32)
  first_waiting more h =
      let len : length poster.posted ≡ length taker.taken + length h.waiting = ap length h.posted ∙ length-append taker.taken h.waiting in
      let seen = h.tail_seen in
      first_in_cell (length taker.taken) h.waiting (omega (arith, len, more)) h.ports h.cells

  -- 5: the taker loads the port of the next post
  pub port_loaded : (n : ℕ) → n ≡ m (cell place capacity (length taker.taken)) → HasWaiting taker
      → OneLane m place capacity poster taker → OneLane m place capacity poster (read_port taker n)
  port_loaded n found more h = record {
    waiting = h.waiting;
    posted = h.posted;
    head = h.head;
    tail = h.tail;
    cells = h.cells;
    ports = h.ports;
    some_room = h.some_room;
    room = h.room;
    few = h.few;
    capacity_known = h.capacity_known;
    head_seen = h.head_seen;
    tail_seen = h.tail_seen;
    port_written = h.port_written;
    value_written = h.value_written;
    port_read = λ k e. ((first_waiting more h).0 ∙ ap Some (sym found ∙ one_port n k e), more);
    value_read = h.value_read;
  }

  -- 5: the taker loads the value of the next post
  pub value_loaded : (n : ℕ) → n ≡ m (cell place capacity (length taker.taken) + 1) → HasWaiting taker
      → OneLane m place capacity poster taker → OneLane m place capacity poster (read_value taker (to_z w64 n))
  value_loaded n found more h = record {
    waiting = h.waiting;
    posted = h.posted;
    head = h.head;
    tail = h.tail;
    cells = h.cells;
    ports = h.ports;
    some_room = h.some_room;
    room = h.room;
    few = h.few;
    capacity_known = h.capacity_known;
    head_seen = h.head_seen;
    tail_seen = h.tail_seen;
    port_written = h.port_written;
    value_written = h.value_written;
    port_read = h.port_read;
    value_read = λ b e. ((first_waiting more h).1 ∙ ap Some (ap (to_z w64) (sym found) ∙ one_value (to_z w64 n) b e), more);
  }

module _ (m m' : ℕ → ℕ) (place capacity : ℕ) (poster : PosterView) (taker : LaneView) where
  taken_off : (a : ℕ) (b : ℤ) → SameBut m m' place capacity place → m' place ≡ length taker.taken + 1 → (h : OneLane m place capacity poster taker)
      → (first_port h.waiting ≡ Some a) × HasWaiting taker → (first_value h.waiting ≡ Some b) × HasWaiting taker → (xs : List Post) → h.waiting ≡ xs
      → OneLane m' place capacity poster (record taker { taken = taker.taken ++ record { port = a; value = b } ∷ []; port = None; value = None })
  taken_off a b same now h port value [] is = absurd (none_is_not a (ap first_port (sym is) ∙ port.0))
  taken_off a b same now h port value (x ∷ xs) is =
      let some_room = h.some_room in let seen = h.head_seen in let room = h.room in
      let y : Post = record { port = a; value = b } in
      let x0 : x.port ≡ a = one_port x.port a (ap first_port (sym is) ∙ port.0) in
      let x1 : x.value ≡ b = one_value x.value b (ap first_value (sym is) ∙ value.0) in
      let same_post : x ≡ y = λ i. record { port = x0 i; value = x1 i } in
      let more : length (taker.taken ++ y ∷ []) ≡ length taker.taken + 1 = length-append taker.taken (y ∷ []) in
      let old : AreInCells m place capacity (length taker.taken) (x ∷ xs) = subst (λ (l : List Post). AreInCells m place capacity (length taker.taken) l) is h.cells in
      let cells : (k : ℕ) → SameCell m m' (cell place capacity k) = λ k. cell_kept m m' place capacity place k some_room (omega arith) same in
      let len : length h.waiting ≡ suc (length xs) = ap length is in
      let next : suc (length taker.taken) ≡ length (taker.taken ++ y ∷ []) = omega (arith, more) in
      record {
        waiting = xs;
        posted = h.posted ∙ ap (λ (l : List Post). taker.taken ++ l) is ∙ ap (λ (z : Post). taker.taken ++ z ∷ xs) same_post ∙ sym (append_assoc taker.taken (y ∷ []) xs);
        head = now ∙ sym more;
        tail = same (place + 1) (omega arith) (omega arith) (λ z. omega (arith, z)) ∙ h.tail;
        cells = cells_same m m' place capacity (length (taker.taken ++ y ∷ [])) xs (λ j low high. cells j)
            (subst (λ (k : ℕ). AreInCells m place capacity k xs) next old.1);
        ports = All-tail IsPort x xs (subst (λ (l : List Post). All IsPort l) is h.ports);
        some_room = h.some_room;
        room = omega (arith, len);
        few = h.few;
        capacity_known = h.capacity_known;
        head_seen = omega (arith, more);
        tail_seen = h.tail_seen;
        port_written = λ n e. let w = h.port_written n e in ((cells (length poster.posted)).0 ∙ w.0, w.1, w.2);
        value_written = λ n e. let w = h.value_written n e in (ap (to_z w64) (cells (length poster.posted)).1 ∙ w.0, w.1);
        port_read = λ n e. absurd (none_is_not n e);
        value_read = λ n e. absurd (none_is_no_value n e);
      }

  -- 6: the taker stores the head, behind the post that it has read
  pub head_stored : (a : ℕ) (b : ℤ) → SameBut m m' place capacity place → m' place ≡ length taker.taken + 1 → taker.port ≡ Some a → taker.value ≡ Some b
      → OneLane m place capacity poster taker → OneLane m' place capacity poster (took_next taker)
  head_stored a b same now port value h =
      let added : took_next taker ≡ record taker { taken = taker.taken ++ record { port = a; value = b } ∷ []; port = None; value = None } =
      λ k. record taker { taken = taker.taken ++ post_of (port k) (value k); port = None; value = None } in
      subst (λ (g : LaneView). OneLane m' place capacity poster g) (sym added)
      (taken_off a b same now h (h.port_read a port) (h.value_read b value) h.waiting refl)
