use Rattle.std.proofs.Common.{◌≡◌, [], Ok, Err, string_bytes}
use Rattle.std.specs.Option.{option_copied}
use Rattle.ccr_pipeline.specs.JobData.{resource_data}
use Rattle.ccr_process.specs.Launches.{launch_data}
use Rattle.ccr_task.specs.Calls.{making}
use Rattle.ccr_task.specs.Launching.{check_launch}
use Rattle.ccr_task.specs.Places.{places_data}
use Rattle.ccr_task.specs.Starting.{started_check}
use Rattle.ccr_task.specs.declared.fault.ShelfFault.TheVariants.{NoMemory}
use Rattle.ccr_serve.specs.Found.{newest, check_folders}
use Rattle.ccr_serve.proofs.Folders.{made_at, does_nothing}
use Rattle.ccr_serve.proofs.Launching.{none_lost, found_after, found_lost}
use Rattle.ccr_serve.proofs.found.find.Goals as goal

pub returns-clause-ok : goal.returns-clause-ok
returns-clause-ok g c =
    found_after (places_data c.args.places.now) (resource_data c.args.resource.now)
    (option_copied c.newest_of.result) (newest (resource_data c.args.resource.now) c.args.history.now)
    (g.S.Shelf.calls c.args.shelf.now) (g.S.Shelf.calls c.make_folder.new.self)
    (g.R.Runner.pairs c.args.runner.now) (g.R.Runner.pairs c.find_by_run.new.runner)
    (launch_data c.in-Ok.launch) c.newest_of.ensures c.in-Ok.ensures.0
    (made_at (g.S.Shelf.calls c.args.shelf.now) (g.S.Shelf.calls c.make_folder.new.self) (Ok tt) c.as_str.result.now
    (string_bytes c.args.places.now.work) c.in-Ok-make_folder.ensures.called c.as_str.ensures.value)
    c.find_by_run.result c.in-Ok.ensures.1 c.find_by_run.ensures.ok

pub returns-clause-err : goal.returns-clause-err
returns-clause-err g c =
    found_lost (places_data c.args.places.now) (resource_data c.args.resource.now)
    (option_copied c.newest_of.result) (newest (resource_data c.args.resource.now) c.args.history.now)
    (g.S.Shelf.calls c.args.shelf.now) (g.S.Shelf.calls c.make_folder.new.self)
    (g.R.Runner.pairs c.args.runner.now) (g.R.Runner.pairs c.find_by_run.new.runner)
    (launch_data c.in-Ok.launch) c.newest_of.ensures c.in-Ok.ensures.0
    (made_at (g.S.Shelf.calls c.args.shelf.now) (g.S.Shelf.calls c.make_folder.new.self) (Ok tt) c.as_str.result.now
    (string_bytes c.args.places.now.work) c.in-Ok-make_folder.ensures.called c.as_str.ensures.value)
    c.find_by_run.result c.find_by_run.ensures.err

pub returns-in-Err-NoMemory-clause-err : goal.returns-in-Err-NoMemory-clause-err
returns-in-Err-NoMemory-clause-err g c =
    none_lost (check_folders (places_data c.args.places.now))
    (λ l. l ≡ started_check (places_data c.args.places.now) (resource_data c.args.resource.now)
    (check_launch (places_data c.args.places.now) (resource_data c.args.resource.now)
    (newest (resource_data c.args.resource.now) c.args.history.now)))
    (g.S.Shelf.calls c.args.shelf.now) (g.S.Shelf.calls c.args.shelf.now) (g.R.Runner.pairs c.args.runner.now)
    (Err NoMemory)
    (does_nothing (making (string_bytes c.args.places.now.work)) [] (g.S.Shelf.calls c.args.shelf.now))
