-- Every path of arcs is taken whole by some settling.
use Rattle.std.proofs.Common.{ℕ, ◌≤◌, List, sym, inl, inr, arith}
use Rattle.table.specs.declared.records.Arc.{Arc}
use Rattle.table.specs.declared.records.Node.{Node}
use Rattle.task.specs.Graph.{IsNode, Joined, OfAKind, ClosingOf, Ranged}
use Rattle.task.specs.Shape.{Shaped}
use Rattle.task.proofs.Follows.{arc_kind, closing_beside}
use Rattle.paths.specs.Paths.{Path, end, step, first, Each, Chain}
use Rattle.workload.specs.Settling.{Settling, Takes}
use Rattle.workload.specs.Statements.{PathsSettle, LongestPathIsLength, OneGreatest}
use Rattle.workload.proofs.Inside.{inside_before_closing}
use Rattle.workload.proofs.Repick.{repick, settling_repick, takes_repick, takes_beside, takes_repicked, some_settling_takes}
use Rattle.workload.proofs.Takes.{takes_home}

module _ (ns : List Node) (arcs : List Arc) (r : Ranged ns arcs) where
  -- a path's numbers grow
  path_grows : (n : ℕ) (p : Path) → n ≤ first p → Chain (Joined arcs) p → Each (λ x. n ≤ x) p
  path_grows n (end v) l c = l
  path_grows n (step v p) l c = (l, path_grows n p (omega (arith, r.arcs_forward v (first p) c.0)) c.1)

module _ (ns : List Node) (arcs : List Arc) (r : Ranged ns arcs) (s : Shaped ns arcs) where
  -- a path from the closing of o on keeps what is taken of it when o is picked anew
  repick_beyond : (pick : ℕ → ℕ) (o b c : ℕ) → ClosingOf ns o c → (p : Path) → Each (IsNode ns) p → Each (λ x. c ≤ x) p → Each (Takes ns pick) p
      → Each (Takes ns (repick pick o b)) p
  repick_beyond pick o b c cl (end v) i l t =
      takes_repick ns r.homes_smaller pick o b v i (λ k. omega (arith, inside_before_closing ns arcs r s o c v cl i k)) t
  repick_beyond pick o b c cl (step v p) is ls ts = (
    takes_repick ns r.homes_smaller pick o b v is.0 (λ k. omega (arith, inside_before_closing ns arcs r s o c v cl is.0 k)) ts.0,
    repick_beyond pick o b c cl p is.1 ls.1 ts.1,
  )

  abbrev TakenWhole : Path → Type 0
  TakenWhole p = (pick : ℕ → ℕ) × Settling ns pick × Each (Takes ns pick) p

  at_first : (P : ℕ → Type 0) (p : Path) → Each P p → P (first p)
  at_first P (end v) h = h
  at_first P (step v p) h = h.0

  one_more : (v : ℕ) (p : Path) → IsNode ns v → Each (IsNode ns) p → Chain (Joined arcs) p → TakenWhole p → OfAKind ns v (first p)
      → TakenWhole (step v p)
  one_more v p i is c (pick, settles, ts) (inl k) =
      (pick, settles, (takes_beside ns r.homes_smaller pick v (first p) i (at_first (IsNode ns) p is) k.within (at_first (Takes ns pick) p ts), ts))
  one_more v p i is c (pick, settles, ts) (inr (inl k)) =
      (pick, settles, (takes_home ns pick r.homes_smaller (first p) v k.inside.0 (at_first (IsNode ns) p is) k.inside.1 (at_first (Takes ns pick) p ts), ts))
  one_more v p i is c (pick, settles, ts) (inr (inr k)) =
      let w = first p in
      let o = k.home in
      let b = k.inside.0 in
      let here = at_first (IsNode ns) p is in
      let less = r.mates_smaller w o here k.closes in
      let closing : ClosingOf ns o w = record { is_node = here; closes = k.closes } in
      let opening-taken = takes_beside ns r.homes_smaller pick o w (omega arith) here (sym (closing_beside ns arcs s o w closing)) (at_first (Takes ns pick) p ts) in (
        repick pick o b,
        settling_repick ns pick o b settles (v, record { is_node = i; lies = k.inside.1 }),
        (
          takes_repicked ns r.homes_smaller pick v o b i k.inside.1 opening-taken,
          repick_beyond pick o b w closing p is (path_grows ns arcs r w p (omega arith) c) ts,
        ),
      )

  taken_whole : (p : Path) → Each (IsNode ns) p → Chain (Joined arcs) p → TakenWhole p
  taken_whole (end v) i c = some_settling_takes ns arcs r s v i
  taken_whole (step v p) is c =
      one_more v p is.0 is.1 c.1 (taken_whole p is.1 c.1) (arc_kind ns arcs s v (first p) c.0)

pub paths_settle_lem : PathsSettle
paths_settle_lem ns arcs r s p h =
    let t = taken_whole ns arcs r s p h.nodes h.joined in
    (t.0, record { settling = t.1; path = h; taken = t.2 })

pub longest_path_is_length_lem : LongestPathIsLength
longest_path_is_length_lem ns arcs l r s longest =
    let p = longest.attained.0 in
    let t = paths_settle_lem ns arcs r s p longest.attained.1 in
    record {
      attained = (t.0, p, t.1, longest.attained.2);
      not_exceeded = λ pick q taken. longest.not_exceeded q taken.path;
    }

pub one_greatest_lem : OneGreatest
one_greatest_lem =
    record {
      of_lengths = λ ns arcs k l p q.
          let a = p.attained in
          let b = q.attained in
          let up = q.not_exceeded a.0 a.1 a.2 in
          let down = p.not_exceeded b.0 b.1 b.2 in
          omega (arith, a.3, b.3);
      of_totals = λ ns k l p q.
          let a = p.attained in
          let b = q.attained in
          let up = q.not_exceeded a.0 a.1 in
          let down = p.not_exceeded b.0 b.1 in
          omega (arith, a.2, b.2);
    }
