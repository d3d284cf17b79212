use Rattle.std.proofs.Common.{◌∙◌, arith}
use Rattle.ccr_index.specs.Rows.{JobRowsValue}
use Rattle.ccr_index.proofs.IndexLaws.{same_map, still_all, more_front}
use Rattle.ccr_index.proofs.index.room_in_jobs.Goals as goal

pub returns-in_err-make_room-clause-builds : goal.returns-in_err-make_room-clause-builds
returns-in_err-make_room-clause-builds c = same_map (λ (z : JobRowsValue). z.builds) (λ z. z.spare) c.loop-j.jobs c.loop-j.j c.index-jobs-j.result c.make_room.new.self (omega arith) c.make_room.ensures.builds c.make_room.ensures.kept ∙ c.loop-j.invariant.0

pub returns-in_err-make_room-clause-scopes : goal.returns-in_err-make_room-clause-scopes
returns-in_err-make_room-clause-scopes c = same_map (λ (z : JobRowsValue). z.scopes) (λ z. z.spare) c.loop-j.jobs c.loop-j.j c.index-jobs-j.result c.make_room.new.self (omega arith) c.make_room.ensures.scopes c.make_room.ensures.kept ∙ c.loop-j.invariant.3

pub returns-in_err-make_room-clause-kept : goal.returns-in_err-make_room-clause-kept
returns-in_err-make_room-clause-kept c = λ n all. still_all (λ (z : JobRowsValue). z.builds) (λ z. z.spare) c.loop-j.jobs c.loop-j.j c.index-jobs-j.result c.make_room.new.self (omega arith) c.make_room.ensures.builds c.make_room.ensures.kept n (c.loop-j.invariant.1 n all)

pub loop-j-preserved : goal.loop-j-preserved
loop-j-preserved c = (
  same_map (λ (z : JobRowsValue). z.builds) (λ z. z.spare) c.loop-j.jobs c.loop-j.j c.index-jobs-j.result c.make_room.new.self (omega arith) c.make_room.ensures.builds c.make_room.ensures.kept ∙ c.loop-j.invariant.0,
  λ n all. still_all (λ (z : JobRowsValue). z.builds) (λ z. z.spare) c.loop-j.jobs c.loop-j.j c.index-jobs-j.result c.make_room.new.self (omega arith) c.make_room.ensures.builds c.make_room.ensures.kept n (c.loop-j.invariant.1 n all),
  λ k d below. more_front (λ (z : JobRowsValue). z.builds) (λ z. z.spare) c.loop-j.jobs c.loop-j.j c.index-jobs-j.result c.make_room.new.self (omega arith) c.make_room.ensures.builds c.make_room.ensures.kept c.args.pairs c.in_ok-make_room.ensures.room c.loop-j.invariant.2 k d below,
  same_map (λ (z : JobRowsValue). z.scopes) (λ z. z.spare) c.loop-j.jobs c.loop-j.j c.index-jobs-j.result c.make_room.new.self (omega arith) c.make_room.ensures.scopes c.make_room.ensures.kept ∙ c.loop-j.invariant.3,
)
