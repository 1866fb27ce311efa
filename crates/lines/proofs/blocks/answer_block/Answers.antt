-- `lines::blocks::answer_block` meets its contract: what is left of the block, answered from where the loop stands, completes what the whole block gives.
use Rattle.theory.proofs.Prelude.{ℕ, ◌<◌, ◌+◌, ◌*◌, [], ◌∷◌, List, ◌++◌, ◌∙◌, ap, ◌≡◌, sym, refl, add-one, arith, length, get_or, drop, drop-cons, drop-length, ne_eqb, eq-eqb}
use Rattle.lines.specs.declared.reading.Line.{Line}
use Rattle.lines.specs.Reading.{fresh, pushed}
use Rattle.lines.specs.Printing.{Put, text_of, line_feed}
use Rattle.lines.specs.Blocks.{ended, begun}
use Rattle.lines.proofs.Stores.{put_after, put_as, put_length, put_upto}
use Rattle.lines.proofs.blocks.answer_block.Goals as goal
use Rattle.lines.proofs.blocks.answer_block.Goals.{then-b-eq10, else-b-eq10}
use Rattle.lines.proofs.blocks.answer_block.Invariants.{Going}

module _ {first line : Line} {input before out : List ℕ} {i at : ℕ} (g : Going first input before i line at out) where
  module _ (h : i < length input) where
    rest : drop i input ≡ get_or input i 0 ∷ drop (i + 1) input
    rest = rw (add-one, drop-cons input i 0)

    line_ends : {next : ℕ} {after : List ℕ} → get_or input i 0 ≡ 10 → Put at 45 (text_of line ++ line_feed) out next after → Going first input before (i + 1) fresh next after
    unfolding ended begun
    line_ends e p =
        record {
          room = omega (arith, p.ends, p.fits, g.room);
          same = put_length p ∙ g.same;
          completes = λ q. put_upto (omega arith) (g.completes (put_as (rw (rest, eq-eqb _ 10 e)) (put_after p q)));
          begins = rw (rest, eq-eqb (get_or input i 0) 10 e) at g.begins;
        }

    byte_fed : (get_or input i 0 ≡ 10 → ⊥) → Going first input before (i + 1) (pushed line (get_or input i 0)) at out
    unfolding ended begun
    byte_fed e =
        record {
          room = omega (arith, g.room);
          same = g.same;
          completes = λ q. put_upto (omega arith) (g.completes (put_as (rw (rest, ne_eqb _ 10 e)) q));
          begins = rw (rest, ne_eqb (get_or input i 0) 10 e) at g.begins;
        }

  none : i ≡ length input → drop i input ≡ []
  none e = rw e (drop-length input)

  all_ended : i ≡ length input → Put 0 (45 * length input) (ended first input) before at out
  unfolding ended
  all_ended e = put_upto (omega arith) (g.completes {most = 0} (put_as (sym (ap (ended line) (none e))) (record { ends = omega arith; fits = omega arith; holds = refl })))

  all_begun : i ≡ length input → line ≡ begun first input
  unfolding begun
  all_begun e = sym (ap (begun line) (none e)) ∙ g.begins

pub loop-b-init : goal.loop-b-init
loop-b-init c = record { room = omega arith; same = refl; completes = λ q. put_upto (omega arith) q; begins = refl }

pub loop-b-preserved : goal.loop-b-preserved
loop-b-preserved c =
    elim c.if-b-eq10.branch [
      | then-b-eq10 w ↦ rw (w.printed-is, w.out-is, w.line-is, w.new-line.ensures) (line_ends c.loop-b.invariant c.loop-b-test.true w.if-b-eq10.true w.put_line-printed.ensures)
      | else-b-eq10 w ↦ rw (w.printed-is, w.out-is, w.line-is, w.push-line.ensures) (byte_fed c.loop-b.invariant c.loop-b-test.true w.if-b-eq10.false)
    ]

pub returns : goal.returns
returns c =
    let e : c.loop-b.b-index ≡ length c.args.input.now = omega arith in
    (all_begun c.loop-b.invariant e, all_ended c.loop-b.invariant e)

pub put_line-printed-requires : goal.put_line-printed-requires
put_line-printed-requires c = omega (arith, c.loop-b.invariant.room, c.loop-b.invariant.same)
