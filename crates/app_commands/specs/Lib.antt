pub mod Catalogues
pub mod Working
pub mod Serving
pub mod Plain
pub mod Program
pub mod Order
