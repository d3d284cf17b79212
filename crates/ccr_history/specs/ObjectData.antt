-- What an object holds, without where it lies in memory.
use Rattle.serde_json.specs.Data.{Data}
use Rattle.serde_json.specs.View.{view}
use Rattle.ccr_history.specs.declared.object.Object.{Object}

abbrev pub object_data : Object → Data
object_data o = view o.value
