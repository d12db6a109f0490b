-- `settle::prepare::lay_out` meets its contract. What it stands on does not look at the readings, so cells for the span stand in, without revisions.
-- Assumes nothing.
use Rattle.std.proofs.Common.{◌≡◌, refl, ap, ◌∙◌, true, [], ℕ, ◌≤◌, length, pos, nat_abs, replicate, arith}
use Rattle.std.proofs.lemmas.List.{length-replicate}
use Rattle.book_memory.specs.Meter.{Memory, lent}
use Rattle.energy.specs.Number.{down}
use Rattle.book.specs.Book.{book_cells}
use Rattle.book.specs.Sound.{Shaped, sound}
use Rattle.book.specs.declared.Book.{Book}
use Rattle.settle_terms.specs.Terms.{period_places, terms_of}
use Rattle.book.proofs.SoundBook.{sound_book}
use Rattle.settle_live.proofs.Marks.{live_first, windows_first}
use Rattle.settle_availability.proofs.Defaults.{unmarked_zeros}
use Rattle.settle.proofs.BookPlan.{Grounds, cleared, kw_upto, windows-fit, available, available_same}
use Rattle.rules.specs.declared.statement.Statement.{Statement}
use Rattle.settle.proofs.prepare.lay_out.Goals as goal

-- cells for the span stand in for the readings, which nothing here looks at
grounds : (b : Book) → sound b ≡ true → b.agreed ≡ true → Shaped b → Grounds b (lent (replicate (book_cells b) (pos 0)) [])
grounds b S A shape =
    record { sound = sound_book b S A; agreed = A; shape = shape; cells = omega (arith, length-replicate (book_cells b) (pos 0)) }

-- windows and defaults stand in the book's arrays
room : {b : Book} {readings : Memory} → Grounds b readings → b.nwindows ≤ length b.windows
room G = omega (arith, G.shape.windows, G.sound.counts.0)

pub shared_ref_as_front-windows : goal.shared_ref_as_front-windows
shared_ref_as_front-windows c = (sound_book c.args.b.now c.requires.0 c.requires.1).counts.0

pub shared_ref_as_front-instructions : goal.shared_ref_as_front-instructions
shared_ref_as_front-instructions c = (sound_book c.args.b.now c.requires.0 c.requires.1).counts.1

pub shared_ref_as_front-availability : goal.shared_ref_as_front-availability
shared_ref_as_front-availability c = (sound_book c.args.b.now c.requires.0 c.requires.1).counts.2

pub terms_of-terms-requires : goal.terms_of-terms-requires
terms_of-terms-requires c =
    let k = (sound_book c.args.b.now c.requires.0 c.requires.1).contract in
    ((k.kw.1, ap down k.plain), omega (arith, k.ramp_start, k.response), k.fall)

pub mark_live-requires : goal.mark_live-requires
mark_live-requires c =
    let r = c.requires in
    let G = grounds c.args.b.now r.0 r.1 r.2 in
    record { cleared = rw c.terms_of-terms.ensures (cleared G); windows = (windows_first _ _ (room G) (windows-fit G), unmarked_zeros period_places) }

pub availability-e-requires : goal.availability-e-requires
unfolding terms_of
availability-e-requires c =
    let r = c.requires in
    let G = grounds c.args.b.now r.0 r.1 r.2 in
    let m = c.mark_live.ensures in
    let size = m.1 ∙ length-replicate {A = ℕ} period_places 0 in
    let live = live_first _ _ (room G) (rw c.terms_of-terms.ensures at m.0) in
    record {
      spans = available G size live;
      upto = (rw c.terms_of-terms.ensures (kw_upto G), G.sound.contract.availability);
    }

pub returns : goal.returns
returns c =
    let r = c.requires in
    let m = c.mark_live.ensures in
    let G = grounds c.args.b.now r.0 r.1 r.2 in
    let size = m.1 ∙ length-replicate {A = ℕ} period_places 0 in
    let live = live_first _ _ (room G) m.0 in
    let same = available_same G size (rw c.terms_of-terms.ensures at live) (nat_abs c.terms_of-terms.result.kw.0) c.args.b.now.contract.availability in
    record {
      lines = ap (λ (s : Statement). s.lines) c.unsummed_of.ensures;
      terms = c.terms_of-terms.ensures;
      size = size;
      live = live;
      statement = rw (c.unsummed_of.ensures, c.availability-e.ensures.0, same) refl;
      small = rw c.unsummed_of.ensures c.availability-e.ensures.1;
    }
